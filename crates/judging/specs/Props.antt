-- That the half-edges are chained, or paired, has at most one proof.
use native.Mathlib.Nat.{ℕ_set}
use native.Mathlib.Bridge.{le_prop}
use mathlib.Core.HLevel.{Π_prop, ×_prop}
use Rattle.std.specs.Prelude.{ℕ, ◌<◌, ◌≢◌, List, Some, None, Option, slice_index}
use Rattle.judging.specs.Chains.{LastBelow, ChainedBelow}
use Rattle.judging.specs.Sides.{Leads, LowestSide, Paired}

last_prop : (cs : List ℕ) (v i : ℕ) (r : Option ℕ) → IsProp (LastBelow cs v i r)
last_prop cs v i None a b = none a b
  where
    none : IsProp ((g : ℕ) → g < i → slice_index cs g ≢ v)
    none = Π_prop λ g. Π_prop λ _. Π_prop λ _. λ x y. absurd x
last_prop cs v i (Some h) a b = λ k. (le_prop a.0 b.0 k, ℕ_set _ _ a.1 b.1 k, none a.2 b.2 k)
  where
    none : IsProp ((g : ℕ) → h < g → g < i → slice_index cs g ≢ v)
    none = Π_prop λ g. Π_prop λ _. Π_prop λ _. Π_prop λ _. λ x y. absurd x

pub chained_prop : (cs : List ℕ) (n i : ℕ) (last link : List (Option ℕ)) → IsProp (ChainedBelow cs n i last link)
chained_prop cs n i last link a b = λ k. record {
  vertices = ℕ_set _ _ a.vertices b.vertices k;
  halfedges = ℕ_set _ _ a.halfedges b.halfedges k;
  ends = λ v l. last_prop cs v i _ (a.ends v l) (b.ends v l) k;
  links = λ h l. last_prop cs _ h _ (a.links h l) (b.links h l) k;
}

leads_prop : (cs : List ℕ) (a b h : ℕ) → IsProp (Leads cs a b h)
leads_prop cs a b h x y = λ k. record { inside = le_prop x.inside y.inside k; from = ℕ_set _ _ x.from y.from k; to = ℕ_set _ _ x.to y.to k }

lowest_prop : (cs : List ℕ) (a b : ℕ) (r : Option ℕ) → IsProp (LowestSide cs a b r)
lowest_prop cs a b None = Π_prop λ h. Π_prop λ _. λ x y. absurd x
lowest_prop cs a b (Some g) = ×_prop (leads_prop cs a b g) (Π_prop λ h. Π_prop λ _. le_prop)

pub paired_prop : (cs : List ℕ) (first twin : List (Option ℕ)) → IsProp (Paired cs first twin)
paired_prop cs first twin a b = λ k. record {
  long_first = ℕ_set _ _ a.long_first b.long_first k;
  long_twin = ℕ_set _ _ a.long_twin b.long_twin k;
  firsts = λ h l. lowest_prop cs _ _ _ (a.firsts h l) (b.firsts h l) k;
  twins = λ h l. lowest_prop cs _ _ _ (a.twins h l) (b.twins h l) k;
}
