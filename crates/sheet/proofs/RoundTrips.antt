-- The two round trips: a sheet that is read and written back, and numbers that are written and read back. Assumes nothing.
use Prim.Native.Nat.{ℕ, ◌+◌, ◌*◌, ◌/◌, ◌%◌, ◌≤◌}
use mathlib.Core.Path.{◌≡◌, refl, ap, sym, ◌∙◌, subst}
use mathlib.Core.List.{List, [], ◌∷◌, ◌++◌}
use mathlib.Core.Bool.{false, cond}
use mathlib.Core.Logic.{◌⊎◌, inl, inr, ⊎_elim}
use native.Mathlib.Omega.{arith}
use native.Mathlib.Nat.{mul-div_cancel, mul-mod_left}
use lib.ListN.{length, get_or, take}
use lib.Seq.{drop-append_seam, take-append_seam, length-take-le}
use lib.Dec.{eqb}
use Rattle.words.specs.Pieces.{write}
use Rattle.words.specs.Bounds.{AtMost}
use Rattle.words.proofs.Choices.{lt-or-le}
use Rattle.words.proofs.Bounds.{at_most-at, at_most-none, at_most-cons, at_most-append, at_most-take, at_most-drop}
use Rattle.words.proofs.Writes.{spelled-all}
use Rattle.request.specs.declared.Request.{Request}
use Rattle.text.specs.Number.{largest, any_over}
use Rattle.text.proofs.Numbers.{not-over, over-not}
use Rattle.sheet.specs.Answer.{counted}
use Rattle.sheet.specs.Grammar.{whole, sheet_of}
use Rattle.sheet.specs.Rendering.{sheet_text, Sheetable}
use Rattle.sheet.specs.Inside.{form_of}
use Rattle.sheet.specs.Reader.{words_of, request_from, request_of, read_says, read_request, arcs_after}
use Rattle.sheet.specs.Writer.{ask_numbers, asks_of, numbers_of, written, write_says, sheet_after, Ranged}
use Rattle.sheet.specs.RoundTrip.{SameBytes, comes_back, SameNumbers}
use Rattle.sheet.proofs.First.{sheetable}
use Rattle.sheet.proofs.Accepted.{sheet-was}
use Rattle.sheet.proofs.Rendered.{sheet-written}
use Rattle.sheet.proofs.Lengths.{whole-arcs}
use Rattle.sheet.proofs.Answers.{reads-sheet}
use Rattle.sheet.proofs.Writings.{writes-sheet}
use Rattle.sheet.proofs.Clear.{Writable}
use Rattle.sheet.proofs.Told.{read_told, written-told}

-- ---- the numbers of `ask`, of which there are four or six

-- those of a request that was read are those that were read
asks-four : (n : ℕ) (asks : List ℕ) → length asks ≡ 4 → take 4 (ask_numbers (request_from n 2 asks)) ≡ asks
asks-four n asks h = subst (λ (l : List ℕ). take 4 (ask_numbers (request_from n 2 l)) ≡ l) (spelled-all asks 4 h) refl

-- of three criteria
asks-six : (n : ℕ) (asks : List ℕ) → length asks ≡ 6 → take 6 (ask_numbers (request_from n 3 asks)) ≡ asks
asks-six n asks h = subst (λ (l : List ℕ). take 6 (ask_numbers (request_from n 3 l)) ≡ l) (spelled-all asks 6 h) refl

-- d is 2 or 3
two-or-three : (d : ℕ) → 2 ≤ d → d ≤ 3 → (d ≡ 2) ⊎ (d ≡ 3)
two-or-three d lo hi = ⊎_elim (λ u. inl (omega arith)) (λ u. inr (omega arith)) (lt-or-le d 3)

-- of either
asks_back : (n d : ℕ) (asks : List ℕ) → 2 ≤ d → d ≤ 3 → length asks ≡ d * 2 → asks_of (request_from n d asks) ≡ asks
unfolding asks_of
asks_back n d asks lo hi h = go d (two-or-three d lo hi) h
  where
    go : (d : ℕ) → (d ≡ 2) ⊎ (d ≡ 3) → length asks ≡ d * 2 → take (d * 2) (ask_numbers (request_from n d asks)) ≡ asks
    go d (inl e) h = rw e (asks-four n asks (h ∙ rw e))
    go d (inr e) h = rw e (asks-six n asks (h ∙ rw e))

-- and those that were written are read as they were
asks-come-back : (r : Request) → 2 ≤ r.criteria → r.criteria ≤ 3 → request_from r.nodes r.criteria (asks_of r) ≡ comes_back r
unfolding asks_of
asks-come-back r lo hi = go r.criteria (two-or-three r.criteria lo hi)
  where
    go : (d : ℕ) → (d ≡ 2) ⊎ (d ≡ 3) → request_from r.nodes d (take (d * 2) (ask_numbers r))
        ≡ record {
          nodes = r.nodes;
          criteria = d;
          source = r.source;
          hops = r.hops;
          ratios = get_or r.ratios 0 0 ∷ get_or r.ratios 1 0 ∷ cond (eqb d 2) 0 (get_or r.ratios 2 0) ∷ cond (eqb d 2) 1 (get_or r.ratios 3 0) ∷ [];
        }
    go d (inl e) = rw e
    go d (inr e) = rw e

-- there are 2 × d of them
asks-long : (r : Request) → r.criteria ≤ 3 → length (asks_of r) ≡ r.criteria * 2
unfolding asks_of
asks-long r h = length-take-le (r.criteria * 2) (ask_numbers r) (omega arith)

-- ---- read, and written back

-- what a sheet says, written
module _ (n d m : ℕ) (s words asks : List ℕ) (e : sheet_of s ≡ whole n d m words asks) where
  -- the request that is read
  abbrev request : Request
  request = request_from n d asks

  -- what was read can be written
  can_be : Sheetable n d m words asks
  can_be = sheetable n d m s words asks e

  -- as many arcs as were read
  as_many : length words / (d + 2) ≡ m
  as_many = ap (λ (k : ℕ). k / (d + 2)) can_be.arc_words ∙ mul-div_cancel m (omega arith)

  -- the sheet that is written is the one that was read
  same_text : written request words ≡ s
  unfolding written
  same_text =
      ap (λ (k : ℕ). sheet_text n d k words (asks_of request)) as_many
      ∙ ap (sheet_text n d m words) (asks_back n d asks can_be.at_least can_be.at_most can_be.asked)
      ∙ sym (sheet-was n d m s words asks e)

  -- rows 3 and 7 do not hold
  in-range : Ranged d words
  in-range =
      record {
        at_least = can_be.at_least;
        at_most = can_be.at_most;
        multiple = ap (λ (k : ℕ). k % (d + 2)) can_be.arc_words ∙ mul-mod_left m (d + 2);
        arcs = rw as_many can_be.arcs;
      }

  -- row 11 does not hold
  none-large : any_over (numbers_of request words) ≡ false
  unfolding numbers_of
  none-large =
      let a : AtMost largest (asks_of request) = subst (AtMost largest) (sym (asks_back n d asks can_be.at_least can_be.at_most can_be.asked)) can_be.asks_small in
      let f : AtMost largest (n ∷ d ∷ []) = at_most-cons largest n (d ∷ []) can_be.nodes_small (at_most-cons largest d [] (omega (arith, can_be.at_most)) (at_most-none largest)) in
      over-not _ (at_most-append largest (n ∷ d ∷ []) (words ++ asks_of request) f (at_most-append largest words (asks_of request) can_be.words_small a))

  -- so the writer answers the length of s, and writes s
  writes-back : (sheet : List ℕ) → length s ≤ 8192 → length s ≤ length sheet
      → (write_says request words (length sheet) ≡ counted (length s)) × (sheet_after request words sheet ≡ write sheet 0 s)
  writes-back sheet short fits =
      let l : length (written request words) ≡ length s = ap length same_text in
      let w = writes-sheet request words sheet in-range none-large (omega arith) (omega arith) in
      (sym w.value ∙ ap counted l, sym w.bytes ∙ ap (write sheet 0) same_text)

-- A SHEET THAT IS READ AND WRITTEN BACK GIVES THE SAME BYTES
pub same_bytes : SameBytes
same_bytes s arcs sheet n e h =
    let t = read_told s arcs n (sym e) in
    let r = t.sheet in
    rw (t.stored, t.request) (writes-back r.nodes r.criteria r.arcs s r.words r.asks r.so sheet r.short h)

-- ---- written, and read back

-- what is written can be on a sheet
can-be-read : (r : Request) (words : List ℕ) (room : ℕ) → Writable r words room
    → Sheetable r.nodes r.criteria (length words / (r.criteria + 2)) words (asks_of r)
unfolding numbers_of
can-be-read r words room w =
    let g = w.ranged in
    let a : AtMost largest ((r.nodes ∷ r.criteria ∷ []) ++ (words ++ asks_of r)) = not-over _ w.small in
    let b : AtMost largest (words ++ asks_of r) = at_most-drop largest 2 _ a in
    record {
      at_least = g.at_least;
      at_most = g.at_most;
      arcs = g.arcs;
      arc_words = whole-arcs r words g;
      asked = asks-long r g.at_most;
      nodes_small = at_most-at largest _ 0 a;
      words_small = subst (AtMost largest) (take-append_seam words (asks_of r)) (at_most-take largest (length words) (words ++ asks_of r) b);
      asks_small = subst (AtMost largest) (drop-append_seam words (asks_of r)) (at_most-drop largest (length words) (words ++ asks_of r) b);
    }

-- what the reader makes of it
reads-back : (r : Request) (words arcs : List ℕ) (room : ℕ) → Writable r words room → length words ≤ length arcs
    → (read_says (written r words) (length arcs) ≡ counted (length words)) × (read_request (written r words) (length arcs) ≡ comes_back r)
    × (arcs_after (written r words) arcs ≡ write arcs 0 words)
unfolding written
reads-back r words arcs room w h =
    let s = written r words in
    let q : sheet_of s ≡ whole r.nodes r.criteria (length words / (r.criteria + 2)) words (asks_of r) = sheet-written _ _ _ words (asks_of r) (can-be-read r words room w) in
    let v : words_of (sheet_of s) ≡ words = ap words_of q in
    let a = reads-sheet s arcs w.short _ (ap form_of q) (rw v h) in
    (sym a.value ∙ ap (λ (l : List ℕ). counted (length l)) v, sym a.request ∙ ap request_of q ∙ asks-come-back r w.ranged.at_least w.ranged.at_most, sym a.arcs ∙ ap (write arcs 0) v)

-- NUMBERS THAT ARE WRITTEN AND READ BACK ARE THE SAME NUMBERS, THE UNUSED RATIO 0 OVER 1
pub same_numbers : SameNumbers
same_numbers r words sheet arcs n e h =
    let w = written-told r words sheet n (sym e) in
    rw w.stored (reads-back r words arcs (length sheet) w.can_be h)

-- with three criteria nothing is excepted: the request comes back as it is
pub all-comes-back : (r : Request) → r.criteria ≡ 3 → length r.ratios ≡ 4 → comes_back r ≡ r
all-comes-back r d h =
    let second : eqb r.criteria 2 ≡ false = ap (λ (k : ℕ). eqb k 2) d in
    rw second
    (ap (λ (l : List ℕ). record { nodes = r.nodes; criteria = r.criteria; source = r.source; hops = r.hops; ratios = l }) (spelled-all r.ratios 4 h))
