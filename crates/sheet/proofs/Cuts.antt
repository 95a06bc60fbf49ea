-- A line, its LF and what follows: how a sheet goes on after a line with no LF in it. Assumes nothing.
use Prim.Native.Nat.{ℕ, suc, ◌+◌, ◌≤◌, ◌<◌}
use mathlib.Core.Path.{◌≡◌, ap, sym, ◌∙◌}
use mathlib.Core.List.{List, [], ◌∷◌, ◌++◌, append-nil}
use native.Mathlib.Omega.{arith}
use native.Mathlib.Numerals.{add-one}
use lib.ListN.{length, drop, length-append}
use lib.Seq.{drop-append-add}
use Rattle.text.specs.Field.{before}
use Rattle.text.proofs.Fields.{before-first, before-through}
use Rattle.sheet.specs.Grammar.{lf, tracks_line, kind_of, judge, lines_from, after_first, sheet_of}
use Rattle.sheet.proofs.Scan.{lines-line}
use Rattle.sheet.proofs.First.{sheet-line}

-- a line with no LF in it is cut out whole
pub cut-whole : (l x : List ℕ) → before lf l ≡ l → before lf (l ++ (lf ∷ x)) ≡ l
cut-whole l x p =
    let h : length l ≤ length (before lf l) = omega (arith, ap length p) in
    before-through lf l (lf ∷ x) h ∙ ap (λ (r : List ℕ). l ++ r) (before-first lf x) ∙ append-nil l

module _ (l x : List ℕ) (p : before lf (l ++ (lf ∷ x)) ≡ l) where
  -- the line is not all that there is
  cut_short : length l < length (l ++ (lf ∷ x))
  cut_short = rw (length-append l (lf ∷ x)) (omega arith)

  -- what follows its LF
  cut-rest : drop (length l + 1) (l ++ (lf ∷ x)) ≡ x
  cut-rest = drop-append-add l (lf ∷ x) 1

  -- as line k, after m arcs
  pub lines_cut : (n d m k : ℕ) → lines_from n d m k [] (l ++ (lf ∷ x)) ≡ judge (kind_of d m l) n d m k x (lines_from n d (m + 1) (k + 1) [] x)
  lines_cut n d m k =
      let h : length (before lf (l ++ (lf ∷ x))) < length (l ++ (lf ∷ x)) = rw p cut_short in
      let r : drop (suc (length l)) (l ++ (lf ∷ x)) ≡ x = rw add-one at cut-rest in
      lines-line n d m k [] (l ++ (lf ∷ x)) h ∙ rw (p, r)

  -- as line 1
  pub sheet-cut : sheet_of (l ++ (lf ∷ x)) ≡ after_first (tracks_line l) x
  sheet-cut = sheet-line (l ++ (lf ∷ x)) l (sym p) cut_short ∙ ap (after_first (tracks_line l)) cut-rest
