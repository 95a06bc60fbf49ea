-- Layer 0: zeros and one start. Assumes nothing.
use Prim.Native.Nat.{ℕ, zero, suc, ◌+◌, ◌-◌, ◌*◌, ◌≤◌, ◌<◌}
use mathlib.Core.Path.{◌≡◌, refl, sym, ap, ap₂, ◌∙◌}
use mathlib.Core.Bool.{Bool, true, false, cond}
use mathlib.Core.List.{List, [], ◌∷◌, ◌++◌}
use native.Mathlib.Nat.{zero-mul}
use native.Mathlib.Omega.{arith}
use lib.ListN.{length, set, take, drop, replicate, length-set, length-replicate}
use lib.Seq.{length-take-le}
use lib.Dec.{eqb, ltb}
use borrow.Author.Tests.{eq-eqb, ne_eqb, ltb-true, ltb-false}
use Rattle.std.proofs.lemmas.List.{replicate-append-replicate, set-append_left, set-append_right}
use Rattle.words.specs.Pieces.{put, write, join}
use Rattle.words.proofs.Pieces.{piece-end, join-zero, join-suc, join-ext}
use Rattle.words.proofs.Writes.{write-front}
use Rattle.request.specs.Request.{Req, width}
use Rattle.rounds.specs.Label.{label, start}
use Rattle.rounds.specs.Rounds.{span, blank, start_block, start_layer}
use Rattle.table.specs.Build.{start_words}

-- ---- one word set among the zeros of a whole layer is a start in the source's block

module _ (size d s : ℕ) where
  abbrev made : ℕ → List ℕ
  made v = start_words size d (eqb v s)

  blank-is : (v : ℕ) → (v ≡ s → ⊥) → start_words size d (eqb v s) ≡ replicate size 0
  unfolding start_words
  blank-is v ne = ap (λ (t : Bool). cond t (set (replicate size 0) d 1) (replicate size 0)) (ne_eqb v s ne)

  source-is : (v : ℕ) → v ≡ s → start_words size d (eqb v s) ≡ set (replicate size 0) d 1
  unfolding start_words
  source-is v e = ap (λ (t : Bool). cond t (set (replicate size 0) d 1) (replicate size 0)) (eq-eqb v s e)

  parts : (n : ℕ) → replicate {A = ℕ} (suc n * size) 0 ≡ replicate (n * size) 0 ++ replicate size 0
  parts n =
      let e : suc n * size ≡ n * size + size = omega arith in
      ap (λ (k : ℕ). replicate k 0) e ∙ sym (replicate-append-replicate (n * size) size 0)

  -- the blocks before the source's
  blanks : (n : ℕ) → n ≤ s → replicate (n * size) 0 ≡ join (λ v. start_words size d (eqb v s)) n
  blanks zero h = ap (λ (k : ℕ). replicate k 0) (zero-mul size) ∙ sym (join-zero made)
  blanks (suc n) h = parts n ∙ ap₂ (λ (x y : List ℕ). x ++ y) (blanks n (omega arith)) (sym (blank-is n (λ e. omega arith))) ∙ sym (join-suc made n)

  -- one block more, behind those that have the source's or behind blank ones
  one-more : (n : ℕ) → s < suc n → d < size → (s < n → set (replicate (n * size) 0) (s * size + d) 1 ≡ join (λ v. start_words size d (eqb v s)) n)
      → set (replicate (suc n * size) 0) (s * size + d) 1 ≡ join (λ v. start_words size d (eqb v s)) (suc n)
  one-more n h i before = go (ltb s n) refl
    where
      go : (b : Bool) → ltb s n ≡ b → set (replicate (suc n * size) 0) (s * size + d) 1 ≡ join (λ v. start_words size d (eqb v s)) (suc n)
      go true q =
          let l = ltb-true s n q in
          ap (λ (x : List ℕ). set x (s * size + d) 1) (parts n)
          ∙ set-append_left (replicate (n * size) 0) (replicate size 0) (s * size + d) 1 (omega (arith, piece-end size n s l, length-replicate {A = ℕ} (n * size) 0))
          ∙ ap₂ (λ (x y : List ℕ). x ++ y) (before l) (sym (blank-is n (λ e. omega arith)))
          ∙ sym (join-suc made n)
      go false q =
          let l = ltb-false s n q in
          let same : n ≡ s = omega arith in
          let start : n * size ≡ s * size = ap (λ (k : ℕ). k * size) same in
          let at : s * size + d - n * size ≡ d = omega arith in
          ap (λ (x : List ℕ). set x (s * size + d) 1) (parts n)
          ∙ set-append_right (replicate (n * size) 0) (replicate size 0) (n * size) (s * size + d) 1 (length-replicate (n * size) 0) (omega arith)
          ∙ ap (λ (k : ℕ). replicate (n * size) 0 ++ set (replicate size 0) k 1) at
          ∙ ap₂ (λ (x y : List ℕ). x ++ y) (blanks n (omega arith)) (sym (source-is n same))
          ∙ sym (join-suc made n)

  one-start : (n : ℕ) → s < n → d < size → set (replicate (n * size) 0) (s * size + d) 1 ≡ join (λ v. start_words size d (eqb v s)) n
  one-start zero h i = absurd (omega arith)
  one-start (suc n) h i = one-more n h i (λ l. one-start n l i)

  -- in the buffer
  pub layer-put : (xs zs : List ℕ) (n : ℕ) → n * size ≤ length xs → s < n → d < size → zs ≡ replicate (length (take (n * size) xs)) 0
      → set (zs ++ drop (n * size) xs) (s * size + d) 1 ≡ write xs 0 (join (λ v. start_words size d (eqb v s)) n)
  layer-put xs zs n room h i e =
      let zeros : zs ≡ replicate (n * size) 0 = e ∙ ap (λ (k : ℕ). replicate k 0) (length-take-le (n * size) xs room) in
      let long : length zs ≡ n * size = ap length zeros ∙ length-replicate (n * size) 0 in
      let new : set zs (s * size + d) 1 ≡ join made n = ap (λ (x : List ℕ). set x (s * size + d) 1) zeros ∙ one-start n h i in
      let new-long : length (join made n) ≡ n * size = sym (ap length new) ∙ length-set zs (s * size + d) 1 ∙ long in
      set-append_left zs (drop (n * size) xs) (s * size + d) 1 (omega (arith, piece-end size n s h))
      ∙ ap₂ (λ (x : List ℕ) (k : ℕ). x ++ drop k xs) new (sym new-long)
      ∙ sym (write-front xs (join made n) (omega arith))

-- a start written over zeros is one word more than zeros
start-over : (d n : ℕ) → d + 2 ≤ n → set (replicate n 0) d 1 ≡ write (replicate n 0) 0 (label (replicate d 0) 1 0)
unfolding write
start-over zero zero h = absurd (omega arith)
start-over zero (suc zero) h = absurd (omega arith)
start-over zero (suc (suc n)) h = ap (λ (l : List ℕ). 1 ∷ 0 ∷ l) (sym (none (replicate n 0)))
  where
    none : (xs : List ℕ) → write xs 0 [] ≡ xs
    none [] = refl
    none (x ∷ xs) = refl
start-over (suc d) zero h = absurd (omega arith)
start-over (suc d) (suc n) h = ap (λ (l : List ℕ). 0 ∷ l) (start-over d n (omega arith))

module _ (R : Req) (room : width R ≤ span R) where
  start_is : (v : ℕ) → start_words (span R) R.criteria (eqb v R.source) ≡ start_block R v
  unfolding start_words start_block blank start put
  start_is v =
      ap (λ (l : List ℕ). cond (eqb v R.source) l (replicate (span R) 0))
      (start-over R.criteria (span R) room ∙ ap (λ (n : ℕ). write (replicate (span R) 0) n (label (replicate R.criteria 0) 1 0)) (sym (zero-mul (width R))))

  pub layer_is : join (λ v. start_words (span R) R.criteria (eqb v R.source)) R.nodes ≡ start_layer R
  unfolding start_layer
  layer_is = join-ext (λ v. start_words (span R) R.criteria (eqb v R.source)) (start_block R) R.nodes (λ v _. start_is v)
