-- Laws on a section of one list, over its offset and length: `sets l at vs` is l with vs stored from `at` on (lib.Seq).
-- Rests on lib.Seq's laws of one store.
use Prim.Native.Nat.{ℕ, zero, suc, ◌+◌, ◌-◌, ◌≤◌, ◌<◌}
use native.Mathlib.Decide.{dec_lt}
use native.Mathlib.Nat.{add-zero}
use native.Mathlib.Omega.{arith}
use mathlib.Core.Path.{◌≡◌, refl, sym, ap, ◌∙◌}
use mathlib.Core.Logic.{◌⊎◌, inl, inr, ◌≢◌}
use mathlib.Core.List.{List, [], ◌∷◌, ◌++◌, append_assoc, append-nil}
use lib.ListN.{length, get_or, take, drop, set, length-set, length-drop, drop_of_length-le}
use lib.Seq.{
  sets,
  sets-eq,
  drop-drop,
  length-sets,
  set_comm,
  set-set,
  set-get_or,
  get_or-set_same,
  get_or-set_other,
  get_or-take,
  get_or-drop,
  ext_get_or,
  drop-cons,
  length-take-le,
  take-suc,
}

-- j stands outside the n places from `at` on
abbrev pub Apart : ℕ → ℕ → ℕ → Type 0
Apart j at n = (j < at) ⊎ (at + n ≤ j)

-- the m places from p on and the n places from q on have none in common
abbrev pub Disjoint : ℕ → ℕ → ℕ → ℕ → Type 0
Disjoint p m q n = (p + m ≤ q) ⊎ (q + n ≤ p)

apart_ne : {j at : ℕ} (n : ℕ) → Apart j at (suc n) → j ≢ at
apart_ne n (inl h) e = omega arith
apart_ne n (inr h) e = omega arith

apart-suc : {j at : ℕ} (n : ℕ) → Apart j at (suc n) → Apart j (suc at) n
apart-suc n (inl h) = inl (omega arith)
apart-suc n (inr h) = inr (omega arith)

module _ {A : Type 0} where
  -- one more at the end
  pub sets_snoc : (l : List A) (at : ℕ) (vs : List A) (v : A) → sets l at (vs ++ (v ∷ [])) ≡ set (sets l at vs) (at + length vs) v
  sets_snoc l at [] v = ap (λ (i : ℕ). set l i v) (omega arith)
  sets_snoc l at (a ∷ vs) v =
      sets_snoc (set l at a) (suc at) vs v ∙ ap (λ (i : ℕ). set (sets (set l at a) (suc at) vs) i v) (omega arith)

  -- a run of stores after another
  pub sets-append : (l : List A) (at : ℕ) (us vs : List A) → sets l at (us ++ vs) ≡ sets (sets l at us) (at + length us) vs
  sets-append l at [] vs = ap (λ (i : ℕ). sets l i vs) (sym (add-zero at))
  sets-append l at (u ∷ us) vs =
      sets-append (set l at u) (suc at) us vs ∙ ap (λ (i : ℕ). sets (sets (set l at u) (suc at) us) i vs) (omega arith)

  -- the same, as a loop has it: n are stored, and vs come next
  pub sets-next : (l : List A) (at : ℕ) (us vs : List A) {m : List A} {n : ℕ} → m ≡ sets l at us → length us ≡ n
      → sets m (at + n) vs ≡ sets l at (us ++ vs)
  sets-next l at us vs e long = rw (e, sets-append, long)

  -- a read outside the section, and inside
  pub get_or-sets-out : (l : List A) (at : ℕ) (vs : List A) (j : ℕ) (d : A) → Apart j at (length vs) → get_or (sets l at vs) j d ≡ get_or l j d
  get_or-sets-out l at [] j d h = refl
  get_or-sets-out l at (a ∷ vs) j d h =
      get_or-sets-out (set l at a) (suc at) vs j d (apart-suc (length vs) h) ∙ get_or-set_other l at j a d (apart_ne (length vs) h)

  pub get_or-sets_in : (l : List A) (at : ℕ) (vs : List A) (i : ℕ) (d : A) → i < length vs → at + length vs ≤ length l
      → get_or (sets l at vs) (at + i) d ≡ get_or vs i d
  get_or-sets_in l at [] i d h fits = absurd (nothing h)
    where
      nothing : {i : ℕ} → i < zero → ⊥
      nothing h = omega arith
  get_or-sets_in l at (a ∷ vs) zero d h fits =
      ap (λ (k : ℕ). get_or (sets (set l at a) (suc at) vs) k d) (here at)
      ∙ get_or-sets-out (set l at a) (suc at) vs at d (inl (omega arith))
      ∙ get_or-set_same l at a d (omega arith)
    where
      here : (at : ℕ) → at + zero ≡ at
      here at = omega arith
  get_or-sets_in l at (a ∷ vs) (suc i) d h fits =
      ap (λ (k : ℕ). get_or (sets (set l at a) (suc at) vs) k d) (there at i)
      ∙ get_or-sets_in (set l at a) (suc at) vs i d (omega arith) (rw length-set (omega arith))
    where
      there : (at i : ℕ) → at + suc i ≡ suc at + i
      there at i = omega arith

  -- a store outside the section, and inside
  pub set-sets-out : (l : List A) (at : ℕ) (vs : List A) (j : ℕ) (v : A) → Apart j at (length vs) → set (sets l at vs) j v ≡ sets (set l j v) at vs
  set-sets-out l at [] j v h = refl
  set-sets-out l at (a ∷ vs) j v h =
      set-sets-out (set l at a) (suc at) vs j v (apart-suc (length vs) h)
      ∙ ap (λ (m : List A). sets m (suc at) vs) (set_comm l at j a v (λ e. apart_ne (length vs) h (sym e)))

  pub set-sets_in : (l : List A) (at : ℕ) (vs : List A) (i : ℕ) (v : A) → i < length vs → set (sets l at vs) (at + i) v ≡ sets l at (set vs i v)
  set-sets_in l at [] i v h = absurd (nothing h)
    where
      nothing : {i : ℕ} → i < zero → ⊥
      nothing h = omega arith
  set-sets_in l at (a ∷ vs) zero v h =
      ap (λ (k : ℕ). set (sets (set l at a) (suc at) vs) k v) (here at)
      ∙ set-sets-out (set l at a) (suc at) vs at v (inl (omega arith))
      ∙ ap (λ (m : List A). sets m (suc at) vs) (set-set l at a v)
    where
      here : (at : ℕ) → at + zero ≡ at
      here at = omega arith
  set-sets_in l at (a ∷ vs) (suc i) v h =
      ap (λ (k : ℕ). set (sets (set l at a) (suc at) vs) k v) (there at i) ∙ set-sets_in (set l at a) (suc at) vs i v (omega arith)
    where
      there : (at i : ℕ) → at + suc i ≡ suc at + i
      there at i = omega arith

  -- a section written anew
  pub sets-sets : (l : List A) (at : ℕ) (vs ws : List A) → length vs ≤ length ws → sets (sets l at vs) at ws ≡ sets l at ws
  sets-sets l at [] ws h = refl
  sets-sets l at (v ∷ vs) [] h = absurd (nothing h)
    where
      nothing : {n : ℕ} → suc n ≤ zero → ⊥
      nothing h = omega arith
  sets-sets l at (v ∷ vs) (w ∷ ws) h =
      ap (λ (m : List A). sets m (suc at) ws)
      (set-sets-out (set l at v) (suc at) vs at w (inl (omega arith)) ∙ ap (λ (m : List A). sets m (suc at) vs) (set-set l at v w))
      ∙ sets-sets (set l at w) (suc at) vs ws (omega arith)

  -- two sections apart
  pub sets_comm : (l : List A) (p : ℕ) (us : List A) (q : ℕ) (vs : List A) → Disjoint p (length us) q (length vs)
      → sets (sets l p us) q vs ≡ sets (sets l q vs) p us
  sets_comm l p us q [] h = refl
  sets_comm l p us q (v ∷ vs) h =
      ap (λ (m : List A). sets m (suc q) vs) (set-sets-out l p us q v (first h)) ∙ sets_comm (set l q v) p us (suc q) vs (rest h)
    where
      first : Disjoint p (length us) q (suc (length vs)) → Apart q p (length us)
      first (inl h) = inr h
      first (inr h) = inl (omega arith)

      rest : Disjoint p (length us) q (suc (length vs)) → Disjoint p (length us) (suc q) (length vs)
      rest (inl h) = inl (omega arith)
      rest (inr h) = inr (omega arith)

  -- the section as a list of its own
  abbrev pub part : List A → ℕ → ℕ → List A
  part l at n = take n (drop at l)

  pub length_part : (l : List A) (at n : ℕ) → at + n ≤ length l → length (part l at n) ≡ n
  length_part l at n h = length-take-le n (drop at l) (rw length-drop (omega arith))

  pub get_d_part : (l : List A) (at n i : ℕ) (d : A) → i < n → get_or (part l at n) i d ≡ get_or l (at + i) d
  get_d_part l at n i d h = get_or-take n (drop at l) i d h ∙ get_or-drop at l i d

  pub part-sets_in : (l : List A) (at : ℕ) (vs : List A) → A → at + length vs ≤ length l → part (sets l at vs) at (length vs) ≡ vs
  part-sets_in l at vs d h =
      ext_get_or d (part (sets l at vs) at (length vs)) vs same_length
      (λ i lt. get_d_part (sets l at vs) at (length vs) i d (shorter i lt) ∙ get_or-sets_in l at vs i d (shorter i lt) h)
    where
      same_length : length (part (sets l at vs) at (length vs)) ≡ length vs
      same_length = length_part (sets l at vs) at (length vs) (rw length-sets h)

      shorter : (i : ℕ) → i < length (part (sets l at vs) at (length vs)) → i < length vs
      shorter i lt = omega (arith, same_length)

  pub part-sets-out : (l : List A) (at : ℕ) (vs : List A) (p n : ℕ) → A → Disjoint p n at (length vs) → p + n ≤ length l
      → part (sets l at vs) p n ≡ part l p n
  part-sets-out l at vs p n d apart h =
      ext_get_or d (part (sets l at vs) p n) (part l p n) (long ∙ sym (length_part l p n h))
      (λ i lt. get_d_part (sets l at vs) p n i d (omega (arith, long)) ∙ get_or-sets-out l at vs (p + i) d (side apart i (omega (arith, long)))
      ∙ sym (get_d_part l p n i d (omega (arith, long))))
    where
      long : length (part (sets l at vs) p n) ≡ n
      long = length_part (sets l at vs) p n (rw length-sets h)

      side : Disjoint p n at (length vs) → (i : ℕ) → i < n → Apart (p + i) at (length vs)
      side (inl s) i lt = inl (omega arith)
      side (inr s) i lt = inr (omega arith)

  -- a section stored where it stands
  pub sets-part : (l : List A) (at n : ℕ) → A → at + n ≤ length l → sets l at (part l at n) ≡ l
  sets-part l at zero d h = refl
  sets-part l at (suc n) d h =
      ap (λ (m : List A). sets l at (take (suc n) m)) (drop-cons l at d (omega arith))
      ∙ ap (λ (m : List A). sets m (suc at) (part l (suc at) n)) (set-get_or l at d)
      ∙ sets-part l (suc at) n d (omega arith)

  -- one element more, and a section that ends in a store
  pub part-suc : (l : List A) (at n : ℕ) (d : A) → at + n < length l → part l at (suc n) ≡ part l at n ++ (get_or l (at + n) d ∷ [])
  part-suc l at n d h =
      take-suc (drop at l) n d (rw length-drop (omega arith))
      ∙ ap (λ (x : A). part l at n ++ (x ∷ [])) (get_or-drop at l n d)

  pub part-set-last : (l : List A) (at n : ℕ) (v : A) → at + n < length l → part (set l (at + n) v) at (suc n) ≡ part l at n ++ (v ∷ [])
  part-set-last l at n v h =
      part-suc (set l (at + n) v) at n v (rw length-set h)
      ∙ ap (λ (m : List A). m ++ (get_or (set l (at + n) v) (at + n) v ∷ [])) (part-sets-out l (at + n) (v ∷ []) at n v (inl (omega arith)) (omega arith))
      ∙ ap (λ (x : A). part l at n ++ (x ∷ [])) (get_or-set_same l (at + n) v v h)

  -- a section lent as a slice of its own, and written whole, comes back as stores into the list
  pub lent : (l : List A) (a k : ℕ) {ys : List A} (vs : List A) → length vs ≡ k → a + k ≤ length l → ys ≡ sets (part l a k) 0 vs
      → take a l ++ (ys ++ drop k (drop a l)) ≡ sets l a vs
  lent l a k vs long fits e =
      ap (λ (m : List A). take a l ++ (m ++ drop k (drop a l))) (e ∙ covered)
      ∙ ap (λ (m : List A). take a l ++ (vs ++ m)) (drop-drop k a l ∙ ap (λ (n : ℕ). drop (a + n) l) (sym long))
      ∙ sym (append_assoc (take a l) vs (drop (a + length vs) l))
      ∙ sym (sets-eq vs l a (rw long fits))
    where
      covered : sets (part l a k) 0 vs ≡ vs
      covered =
          sets-eq vs (part l a k) 0 (omega (arith, long, length_part l a k fits))
          ∙ ap (λ (m : List A). vs ++ m) (drop_of_length-le (part l a k) {i = 0 + length vs} (omega (arith, long, length_part l a k fits)))
          ∙ append-nil vs

  -- a section that is covered by a later one is gone
  pub sets-under : (l : List A) (at : ℕ) (vs : List A) (p : ℕ) (ws : List A) → A → p ≤ at → at + length vs ≤ p + length ws → p + length ws ≤ length l
      → sets (sets l at vs) p ws ≡ sets l p ws
  sets-under l at vs p ws d low high fits =
      ext_get_or d (sets (sets l at vs) p ws) (sets l p ws)
      (length-sets (sets l at vs) p ws ∙ length-sets l at vs ∙ sym (length-sets l p ws)) (λ j h. go j (dec_lt j p) (dec_lt j (p + length ws)))
    where
      inside : (j : ℕ) → p ≤ j → j < p + length ws → get_or (sets (sets l at vs) p ws) j d ≡ get_or (sets l p ws) j d
      inside j low' high' =
          ap (λ (i : ℕ). get_or (sets (sets l at vs) p ws) i d) (back j low')
          ∙ get_or-sets_in (sets l at vs) p ws (j - p) d (omega arith) (rw length-sets fits)
          ∙ sym (get_or-sets_in l p ws (j - p) d (omega arith) fits)
          ∙ ap (λ (i : ℕ). get_or (sets l p ws) i d) (sym (back j low'))
        where
          back : (j : ℕ) → p ≤ j → j ≡ p + (j - p)
          back j h = omega arith

      outside : (j : ℕ) → Apart j p (length ws) → Apart j at (length vs) → get_or (sets (sets l at vs) p ws) j d ≡ get_or (sets l p ws) j d
      outside j far near =
          get_or-sets-out (sets l at vs) p ws j d far ∙ get_or-sets-out l at vs j d near ∙ sym (get_or-sets-out l p ws j d far)

      go : (j : ℕ) → Dec (j < p) → Dec (j < p + length ws) → get_or (sets (sets l at vs) p ws) j d ≡ get_or (sets l p ws) j d
      go j (yes h) e = outside j (inl h) (inl (omega arith))
      go j (no h) (yes k) = inside j (omega arith) k
      go j (no h) (no k) = outside j (inr (omega arith)) (inr (omega arith))

  -- a section reads the same in two lists where its elements are the same
  pub part_same : (m l : List A) (at n : ℕ) (d : A) → length m ≡ length l → at + n ≤ length l → ((i : ℕ) → i < n → get_or m (at + i) d ≡ get_or l (at + i) d)
      → part m at n ≡ part l at n
  part_same m l at n d long fits same =
      ext_get_or d (part m at n) (part l at n) (long_m ∙ sym (length_part l at n fits))
      (λ i h. get_d_part m at n i d (omega (arith, long_m)) ∙ same i (omega (arith, long_m)) ∙ sym (get_d_part l at n i d (omega (arith, long_m))))
    where
      long_m : length (part m at n) ≡ n
      long_m = length_part m at n (omega arith)

  -- a list that holds us from p on and vs from q on, after them, and what l holds elsewhere
  pub two_stored : (m l : List A) (p : ℕ) (us : List A) (q : ℕ) (vs : List A) (d : A) → length m ≡ length l → p + length us ≤ q → q + length vs ≤ length l
      → ((i : ℕ) → i < length us → get_or m (p + i) d ≡ get_or us i d) → ((i : ℕ) → i < length vs → get_or m (q + i) d ≡ get_or vs i d)
      → ((j : ℕ) → Apart j p (length us) → Apart j q (length vs) → get_or m j d ≡ get_or l j d) → m ≡ sets (sets l p us) q vs
  two_stored m l p us q vs d long after fits first second rest =
      ext_get_or d m (sets (sets l p us) q vs) (long ∙ sym (length-sets (sets l p us) q vs ∙ length-sets l p us))
      (λ j h. go j (dec_lt j p) (dec_lt j (p + length us)) (dec_lt j q) (dec_lt j (q + length vs)))
    where
      back : (j n : ℕ) → n ≤ j → j ≡ n + (j - n)
      back j n h = omega arith

      neither : (j : ℕ) → Apart j p (length us) → Apart j q (length vs) → get_or m j d ≡ get_or (sets (sets l p us) q vs) j d
      neither j far away =
          rest j far away ∙ sym (get_or-sets-out (sets l p us) q vs j d away ∙ get_or-sets-out l p us j d far)

      go : (j : ℕ) → Dec (j < p) → Dec (j < p + length us) → Dec (j < q) → Dec (j < q + length vs)
          → get_or m j d ≡ get_or (sets (sets l p us) q vs) j d
      go j (yes x) y z w = neither j (inl x) (inl (omega arith))
      go j (no x) (yes y) z w =
          ap (λ (i : ℕ). get_or m i d) (back j p (omega arith)) ∙ first (j - p) (omega arith)
          ∙ sym (get_or-sets_in l p us (j - p) d (omega arith) (omega arith))
          ∙ ap (λ (i : ℕ). get_or (sets l p us) i d) (sym (back j p (omega arith)))
          ∙ sym (get_or-sets-out (sets l p us) q vs j d (inl (omega arith)))
      go j (no x) (no y) (yes z) w = neither j (inr (omega arith)) (inl z)
      go j (no x) (no y) (no z) (yes w) =
          ap (λ (i : ℕ). get_or m i d) (back j q (omega arith)) ∙ second (j - q) (omega arith)
          ∙ sym (get_or-sets_in (sets l p us) q vs (j - q) d (omega arith) (rw length-sets fits))
          ∙ ap (λ (i : ℕ). get_or (sets (sets l p us) q vs) i d) (sym (back j q (omega arith)))
      go j (no x) (no y) (no z) (no w) = neither j (inr (omega arith)) (inr (omega arith))
