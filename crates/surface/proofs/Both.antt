-- A pinch leaves a closed surface just where the local test passes.
use Rattle.std.proofs.Common.{◌≡◌, ℕ, true, ◌⊎◌, sym, refl, ap, ◌∙◌, subst, inl, inr}
use Rattle.surface.specs.Surface.{Surface, next, Tri, Side}
use Rattle.surface.specs.Permitted.{Link}
use Rattle.surface.proofs.Tris.{spin, spin2, moved, same_from, renumber}
use Rattle.surface.proofs.Sealed.{Sealed, one_third}
use Rattle.surface.proofs.Pinch.{Pinch, swap, Gone, uwa, wau, auw, wub, ubw, bwu, u≢w, w≢a, a≢u, u≢b, b≢w, a≢b, fate}
use Rattle.surface.proofs.Local.{Lives, kept_ua, kept_aw, proper', single', matched'}
use Rattle.surface.proofs.Threes.{Only, those}
use Rattle.surface.proofs.Apart.{apart'}
use Rattle.surface.proofs.Rounds.{ring'}

module _ {S N : Surface} {φ : ℕ → ℕ} (K : Sealed S) where
  module _ {e f u w a b : ℕ} (P : Pinch S N φ e f u w a b) where
    still_u : {x : ℕ} → x ≡ u → (y : ℕ) × Side N (φ x) y
    still_u i = let (h, c, t) = K.matched (spin2 P.te) in (φ a, (h, φ c, moved (ap φ (sym i)) refl refl (P.I.up t (kept_ua K P t))))

    still_a : {x : ℕ} → x ≡ a → (y : ℕ) × Side N (φ x) y
    still_a i = let (h, c, t) = K.matched (spin P.te) in (φ w, (h, φ c, moved (ap φ (sym i)) refl refl (P.I.up t (kept_aw K P t))))

  module _ {e f u w a b : ℕ} (P : Pinch S N φ e f u w a b) where
    used' : {v : ℕ} → N.present v ≡ true → (y : ℕ) × Side N v y
    used' {v} l =
        let (x, k, i) = (P.I.vertex v).0 l in
        let (q, (h, r, t)) = K.used k in
        subst (λ n. (y : ℕ) × Side N n y) i (go t (fate K P t))
      where
        go : {h x q r : ℕ} → Tri S h x q r → Lives N h ⊎ Gone u w a b x q r → (y : ℕ) × Side N (φ x) y
        go {h} {x} {q} {r} t (inl m) = (φ q, (h, φ r, P.I.up t m))
        go t (inr (uwa i j k)) = still_u P i
        go t (inr (wau i j k)) = still_u (swap P) i
        go t (inr (auw i j k)) = still_a P i
        go t (inr (wub i j k)) = still_u (swap P) i
        go t (inr (ubw i j k)) = still_u P i
        go t (inr (bwu i j k)) = still_a (swap P) i

    known' : {h x y z : ℕ} → Tri N h x y z → N.present x ≡ true
    known' {x = x} t = let (p, q, r, s, i, j, k) = P.I.down t in (P.I.vertex x).1 (p, K.known s, i)

    pub closes : Link S u w a b → Sealed N
    closes A =
        record {
          proper = proper' P.I;
          single = single' K P A.common;
          matched = matched' K P;
          apart = apart' K P A;
          ring = ring' K P;
          used = used';
          known = known';
        }

    module _ (C : Sealed N) where
      common : (c : ℕ) → Side S u c → Side S w c → (c ≡ a) ⊎ (c ≡ b)
      common c (h, r, th) (g, s, tg) = first (fate K P th)
        where
          second : Lives N h → Lives N g ⊎ Gone u w a b w c s → (c ≡ a) ⊎ (c ≡ b)
          second lh (inl lg) = absurd (u≢w K P (same_from (renumber (C.single (P.I.up th lh) (moved (sym P.J.join) refl refl (P.I.up tg lg))) th) tg))
          second lh (inr (uwa i j k)) = absurd (u≢w K P (sym i))
          second lh (inr (wau i j k)) = inl j
          second lh (inr (auw i j k)) = absurd (w≢a K P i)
          second lh (inr (wub i j k)) = absurd (K.proper th (sym j))
          second lh (inr (ubw i j k)) = absurd (u≢w K P (sym i))
          second lh (inr (bwu i j k)) = absurd (b≢w K P (sym i))

          first : Lives N h ⊎ Gone u w a b u c r → (c ≡ a) ⊎ (c ≡ b)
          first (inl lh) = second lh (fate K P tg)
          first (inr (uwa i j k)) = absurd (K.proper tg (sym j))
          first (inr (wau i j k)) = absurd (u≢w K P i)
          first (inr (auw i j k)) = absurd (a≢u K P (sym i))
          first (inr (wub i j k)) = absurd (u≢w K P i)
          first (inr (ubw i j k)) = inr j
          first (inr (bwu i j k)) = absurd (u≢b K P i)

      large : Only S u w a b → Only S w u b a → ⊥
      large ou ow =
          let (B, y, t_b) = K.matched (spin2 P.te) in
          let (A, z, t_a) = K.matched (spin P.te) in
          C.apart (P.I.up t_a (kept_aw K P t_a)) (moved P.J.join refl refl (P.I.up t_b (kept_ua K P t_b)))
          (ap φ (z_is t_a (ow z (next A, a, spin t_a)) ∙ sym (y_is t_b (ou y (K.matched (spin2 t_b))))))
        where
          y_is : {B y : ℕ} → Tri S B u a y → (y ≡ w) ⊎ ((y ≡ a) ⊎ (y ≡ b)) → y ≡ b
          y_is t (inl i) = absurd (a≢b K P (one_third K (moved i refl refl (spin2 t)) P.tf))
          y_is t (inr (inl i)) = absurd (K.proper (spin t) (sym i))
          y_is t (inr (inr i)) = i

          z_is : {A z : ℕ} → Tri S A a w z → (z ≡ u) ⊎ ((z ≡ b) ⊎ (z ≡ a)) → z ≡ b
          z_is t (inl i) = absurd (a≢b K P (one_third K (moved refl i refl (spin t)) P.tf))
          z_is t (inr (inl i)) = i
          z_is t (inr (inr i)) = absurd (K.proper (spin2 t) i)

      pub link : Link S u w a b
      link =
          record {
            common = common;
            large = λ (x, y, z, t) (x', y', z', t').
                large (those t.only (e, a, P.te) (K.matched (spin2 P.te)) (next f, w, spin P.tf) (w≢a K P) (a≢b K P) (b≢w K P))
                (those t'.only (f, b, P.tf) (K.matched (spin2 P.tf)) (next e, u, spin P.te) (u≢b K P) (λ i. a≢b K P (sym i)) (a≢u K P));
          }
