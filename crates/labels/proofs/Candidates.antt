-- A candidate's words, written one by one. Assumes nothing.
use Prim.Native.Nat.{ℕ, ◌+◌, ◌<◌}
use mathlib.Core.Path.{◌≡◌, sym, ap, ◌∙◌}
use mathlib.Core.List.{List, [], ◌∷◌, ◌++◌, append_assoc, append-nil}
use native.Mathlib.Omega.{arith}
use lib.ListN.{length, get_or, set, take, drop, length-append, length-drop, drop_of_length-le}
use lib.Seq.{length-take-le, take_all, get_or-take, get_or-drop}
use Rattle.words.proofs.Writes.{front-more, copy_more}
use Rattle.rounds.specs.Label.{label, sum}
use Rattle.rounds.proofs.Labels.{get_or-sum, length-sum}
use Rattle.labels.specs.Words.{Adds}

-- the sums of a label's costs and an arc's
abbrev pub sums : ℕ → List ℕ → List ℕ → List ℕ
sums d lab arc = sum (take d lab) (drop 2 arc)

module _ (d : ℕ) (out lab arc : List ℕ) (h : Adds d out lab arc) where
  abbrev S : List ℕ
  S = sums d lab arc

  pub sums-length : length (sums d lab arc) ≡ d
  sums-length =
      let a = h.lab_long in
      let b = h.arc_long in
      let x : length (take d lab) ≡ d = length-take-le d lab (omega arith) in
      let y : length (drop 2 arc) ≡ d = length-drop 2 arc ∙ omega arith in
      length-sum (take d lab) (drop 2 arc) (x ∙ sym y) ∙ y

  -- sum k
  sums_at : (k : ℕ) → k < d → get_or S k 0 ≡ get_or lab k 0 + get_or arc (k + 2) 0
  sums_at k l =
      let e : 2 + k ≡ k + 2 = omega arith in
      get_or-sum (take d lab) (drop 2 arc) k
      ∙ ap (λ (x : ℕ). x + get_or (drop 2 arc) k 0) (get_or-take d lab k 0 l)
      ∙ ap (λ (x : ℕ). get_or lab k 0 + x) (get_or-drop 2 arc k 0 ∙ ap (λ (n : ℕ). get_or arc n 0) e)

  -- one sum more
  pub one-sum : (xs : List ℕ) (k : ℕ) → k < d → xs ≡ take k (sums d lab arc) ++ drop k out → set xs k (get_or lab k 0 + get_or arc (k + 2) 0) ≡ take (k + 1) (sums d lab arc) ++ drop (k + 1) out
  one-sum xs k l e =
      let size = sums-length in
      let long = h.out_long in
      ap (λ (ys : List ℕ). set ys k (get_or lab k 0 + get_or arc (k + 2) 0)) e
      ∙ ap (set (take k (sums d lab arc) ++ drop k out) k) (sym (sums_at k l))
      ∙ copy_more S out k (omega arith) (omega arith)

  -- the last two words
  pub step-and-from : (xs : List ℕ) (s f : ℕ) → xs ≡ take d (sums d lab arc) ++ drop d out → set (set xs d s) (d + 1) f ≡ label (sums d lab arc) s f
  step-and-from xs s f e =
      let size = sums-length in
      let long = h.out_long in
      let all : take d S ≡ S = take_all d S (omega arith) in
      let one : length (S ++ (s ∷ [])) ≡ d + 1 = length-append S (s ∷ []) ∙ omega arith in
      let end : drop (d + 1 + 1) out ≡ [] = drop_of_length-le out {i = d + 1 + 1} (omega arith) in
      ap (λ (ys : List ℕ). set (set ys d s) (d + 1) f) (e ∙ ap (λ (ys : List ℕ). ys ++ drop d out) all)
      ∙ ap (λ (ys : List ℕ). set ys (d + 1) f) (front-more S out d s size (omega arith))
      ∙ front-more (S ++ (s ∷ [])) out (d + 1) f one (omega arith)
      ∙ ap (λ (ys : List ℕ). ((S ++ (s ∷ [])) ++ (f ∷ [])) ++ ys) end
      ∙ append-nil _
      ∙ append_assoc S (s ∷ []) (f ∷ [])
