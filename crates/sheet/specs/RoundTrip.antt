-- Demand 2, on reader and writer: what is read and written back, and what is written and read back. Assumes nothing.
use Rattle.std.specs.Prelude.{ℕ, ◌≤◌, ◌≡◌, cond, List, [], ◌∷◌, length, take, get_or, eqb}
use Rattle.words.specs.Pieces.{write}
use Rattle.request.specs.declared.Request.{Request}
use Rattle.sheet.specs.Answer.{counted}
use Rattle.sheet.specs.Reader.{read_says, read_request, arcs_after}
use Rattle.sheet.specs.Writer.{write_says, sheet_after}

-- "A sheet that is read and written back gives the same bytes": into any bytes that are enough for it
abbrev pub SameBytes : Type 0
SameBytes =
    (s arcs sheet : List ℕ) (n : ℕ) → read_says s (length arcs) ≡ counted n → length s ≤ length sheet
    → (write_says (read_request s (length arcs)) (take n (arcs_after s arcs)) (length sheet) ≡ counted (length s))
    × (sheet_after (read_request s (length arcs)) (take n (arcs_after s arcs)) sheet ≡ write sheet 0 s)

-- "with two criteria the unused ratio comes back as 0 over 1"
abbrev pub comes_back : Request → Request
comes_back r =
    record {
      nodes = r.nodes;
      criteria = r.criteria;
      source = r.source;
      hops = r.hops;
      ratios = get_or r.ratios 0 0 ∷ get_or r.ratios 1 0 ∷ cond (eqb r.criteria 2) 0 (get_or r.ratios 2 0) ∷ cond (eqb r.criteria 2) 1 (get_or r.ratios 3 0) ∷ [];
    }

-- "numbers that are written and read back are the same numbers": the request but for its unused ratio, and all arc words
abbrev pub SameNumbers : Type 0
SameNumbers =
    (r : Request) (words sheet arcs : List ℕ) (n : ℕ) → write_says r words (length sheet) ≡ counted n → length words ≤ length arcs
    → (read_says (take n (sheet_after r words sheet)) (length arcs) ≡ counted (length words))
    × (read_request (take n (sheet_after r words sheet)) (length arcs) ≡ comes_back r)
    × (arcs_after (take n (sheet_after r words sheet)) arcs ≡ write arcs 0 words)
