-- The tables of a closed surface have no empty entry, and what the entries are.
use Rattle.std.proofs.Common.{◌≡◌, ℕ, ◌%◌, ◌<◌, true, List, length, get_or, is_some, Some, None, Option, sym, refl, ◌∙◌, subst, arith}
use Rattle.surface.specs.Surface.{next, Tri, Side}
use Rattle.surface.specs.Closed.{Matched, AllRinged}
use Rattle.surface.specs.Read.{whole}
use Rattle.judging.specs.Chains.{LastBelow, Chained}
use Rattle.judging.specs.Sides.{Leads, LowestSide, Paired}
use Rattle.judging.specs.Tables.{Entries, Twins, Outs}
use Rattle.judging.proofs.Whole.{whole_tri, tri_below, whole_corner, whole_present}

module _ (cs : List ℕ) (n : ℕ) (threes : length cs % 3 ≡ 0) where
  met : (a b : ℕ) (r : Option ℕ) → LowestSide cs a b r → Side (whole cs n) a b → is_some r ≡ true
  met a b None L (g, c, t) = let (i, f, e, _) = tri_below cs n threes t in absurd (L g (record { inside = i; from = f; to = e }))
  met a b (Some g) L s = refl

  pub twin_full : {first twin : List (Option ℕ)} → Paired cs first twin → Matched (whole cs n) → (h : ℕ) → h < length twin → is_some (get_or twin h None) ≡ true
  twin_full P M h l =
      let i : h < length cs = omega (arith, P.long_twin) in
      met _ _ _ (P.twins h i) (M h _ _ _ (whole_tri cs n h threes i))

  begun : (v h a b : ℕ) (r : Option ℕ) → LastBelow cs v (length cs) r → Tri (whole cs n) h v a b → is_some r ≡ true
  begun v h a b None L t = let (i, f, _, _) = tri_below cs n threes t in absurd (L h i f)
  begun v h a b (Some g) L t = refl

  pub last_full : {last link : List (Option ℕ)} → Chained cs n last link → AllRinged (whole cs n) → (v : ℕ) → v < length last → is_some (get_or last v None) ≡ true
  last_full C R v l =
      let i : v < n = omega (arith, C.vertices) in
      let (_, ring) = R v (whole_present cs n v i) in
      let (a, b, c, t, _) = ring.closing in
      begun v _ _ _ _ (C.ends v i) t

  pub twins_are : {first twin : List (Option ℕ)} → Paired cs first twin → (held : List ℕ) → Entries twin held → Twins (whole cs n) (length cs) held
  twins_are {first} {twin} P held E =
      record { long = E.long ∙ P.long_twin; inside = λ h l. (side h l).inside; from = λ h l. read_as (get_or held h 0) (next h) (side h l).from; to = λ h l. read_as (next (get_or held h 0)) h (side h l).to }
    where
      read_as : (g h : ℕ) → get_or cs g 0 ≡ get_or cs h 0 → (whole cs n).corner g ≡ (whole cs n).corner h
      read_as g h e = whole_corner cs n g ∙ e ∙ sym (whole_corner cs n h)

      side : (h : ℕ) → h < length cs → Leads cs (get_or cs (next h) 0) (get_or cs h 0) (get_or held h 0)
      side h l = (subst (LowestSide cs (get_or cs (next h) 0) (get_or cs h 0)) (E.same h (omega (arith, P.long_twin))) (P.twins h l)).0

  pub outs_are : {last link : List (Option ℕ)} → Chained cs n last link → (held : List ℕ) → Entries last held → Outs (whole cs n) (length cs) n held
  outs_are {last} {link} C held E =
      record { long = E.long ∙ C.vertices; inside = λ v l. (here v l).0; from = λ v l. whole_corner cs n (get_or held v 0) ∙ (here v l).1 }
    where
      here : (v : ℕ) → v < n → LastBelow cs v (length cs) (Some (get_or held v 0))
      here v l = subst (LastBelow cs v (length cs)) (E.same v (omega (arith, C.vertices))) (C.ends v l)
