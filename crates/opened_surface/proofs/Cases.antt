-- Keys that are right unless near a stale vertex, by cases.
use Rattle.std.proofs.Common.{◌≡◌, ℕ, ◌*◌, ◌/◌, ◌<◌, true, false, ◌⊎◌, List, get_or, is_some, Some, None, Option, refl, inl, inr}
use Rattle.std.proofs.lemmas.Bool.{cases_Bool, both_ways}
use Rattle.surface.specs.Surface.{Surface, next}
use Rattle.surface.specs.Geometry.{Vector}
use Rattle.queue.specs.declared.keys.Key.{Key}
use Rattle.gauge.specs.declared.Gauge.{Ghosts}
use Rattle.opened_surface.specs.Keys.{KeyIs}
use Rattle.opened_surface.specs.Marks.{Marks, Marked, NearMark}
use Rattle.opened_surface.specs.Stale.{KeyBut, KeyedBut}

near_told : (S : Surface) (l : Marks) (h : ℕ) → NearMark S l h ⊎ (NearMark S l h → ⊥)
near_told S l h = go (cases_Bool (S.alive (h / 3))) (cases_Bool (is_some (get_or l (S.corner h) None))) (cases_Bool (is_some (get_or l (S.corner (next h)) None)))
  where
    go : (S.alive (h / 3) ≡ true) ⊎ (S.alive (h / 3) ≡ false) → Marked l (S.corner h) ⊎ (is_some (get_or l (S.corner h) None) ≡ false) →
        Marked l (S.corner (next h)) ⊎ (is_some (get_or l (S.corner (next h)) None) ≡ false) → NearMark S l h ⊎ (NearMark S l h → ⊥)
    go (inr d) a b = inr (λ n. both_ways _ d n.0)
    go (inl v) (inl a) b = inl (v, inl a)
    go (inl v) (inr a) (inl b) = inl (v, inr b)
    go (inl v) (inr a) (inr b) = inr (λ n. elim n.1 [ inl x ↦ both_ways _ a x | inr x ↦ both_ways _ b x ])

none_told : {A : Type 0} (k : Option A) → (k ≡ None) ⊎ (k ≡ None → ⊥)
none_told None = inl refl
none_told (Some x) = inr (λ i. cc)

module _ {G C E Z : Type 0} (m : Ghosts G C E Z) (S : Surface) (P : ℕ → Vector) (setting : Z) (account : List E) (strong weak : Marks) where
  -- the key is right, or near a vertex that is to be priced again, or there is none and it is near one that is to be opened again
  abbrev pub KeyOr : ℕ → Option (Key C) → Type 0
  KeyOr h k = KeyIs m S P setting account h k ⊎ (NearMark S strong h ⊎ ((k ≡ None) × NearMark S weak h))

  abbrev pub KeyedOr : ℕ → List (Option (Key C)) → Type 0
  KeyedOr T keys = (h : ℕ) → h < 3 * T → KeyOr h (get_or keys h None)

  but_of : (h : ℕ) (k : Option (Key C)) → KeyOr h k → KeyBut m S P setting account strong weak h k
  but_of h k (inl r) = λ a b. r
  but_of h k (inr (inl n)) = λ a b. absurd (a n)
  but_of h k (inr (inr n)) = λ a b. absurd (b n)

  or_of : (h : ℕ) (k : Option (Key C)) → KeyBut m S P setting account strong weak h k → KeyOr h k
  or_of h k B = go (near_told S strong h) (near_told S weak h) (none_told k)
    where
      go : NearMark S strong h ⊎ (NearMark S strong h → ⊥) → NearMark S weak h ⊎ (NearMark S weak h → ⊥) → (k ≡ None) ⊎ (k ≡ None → ⊥) → KeyOr h k
      go (inl n) b c = inr (inl n)
      go (inr a) (inl b) (inl c) = inr (inr (c, b))
      go (inr a) (inl b) (inr c) = inl (B a (λ n. c n.0))
      go (inr a) (inr b) c = inl (B a (λ n. b n.1))

  pub keyed_but : (T : ℕ) (keys : List (Option (Key C))) → KeyedOr T keys → KeyedBut m S P setting account strong weak T keys
  keyed_but T keys K h l = but_of h (get_or keys h None) (K h l)

  pub keyed_or : (T : ℕ) (keys : List (Option (Key C))) → KeyedBut m S P setting account strong weak T keys → KeyedOr T keys
  keyed_or T keys K h l = or_of h (get_or keys h None) (K h l)
