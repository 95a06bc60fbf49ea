-- What the reader's and the writer's answers tell their caller. Assumes nothing.
use Prim.Native.Nat.{ℕ, ◌≤◌}
use mathlib.Core.Path.{◌≡◌, refl, ap, sym, ◌∙◌}
use mathlib.Core.List.{List, [], ◌∷◌}
use native.Mathlib.Omega.{arith}
use lib.ListN.{length, take}
use Rattle.words.specs.Pieces.{write}
use Rattle.words.specs.Rows.{Weighed, clear, refused, weigh}
use Rattle.words.proofs.Writes.{part-write-same}
use Rattle.request.specs.declared.Request.{Request}
use Rattle.request.specs.declared.Refusal.{Refusal}
use Rattle.request.specs.Refusal.{number_of, place_of}
use Rattle.std.proofs.Common.{Err}
use Rattle.sheet.specs.Grammar.{sheet_of}
use Rattle.sheet.specs.Rendering.{Sheetable}
use Rattle.sheet.specs.Answer.{counted, told}
use Rattle.sheet.specs.Reader.{said, words_of, request_from, request_of, reader_rows, read_says, read_request, arcs_after}
use Rattle.sheet.specs.Writer.{writing_said, written, writer_rows, write_says, sheet_after}
use Rattle.sheet.proofs.First.{sheetable}
use Rattle.sheet.proofs.Clear.{told-clear, Readable, readable, Writable, writable}

-- the front that was written
front-is : (l ys : List ℕ) (n : ℕ) → length ys ≤ length l → n ≡ length ys → take n (write l 0 ys) ≡ ys
front-is l ys n h e = ap (λ (k : ℕ). take k (write l 0 ys)) e ∙ part-write-same l 0 ys (omega arith)

-- a refusal tells its row
told-refused : (w : Weighed) (k number place : ℕ) → number ∷ place ∷ [] ≡ told w k → w ≡ refused number place
told-refused clear k number place e = absurd (omega (arith, ap (length {A = ℕ}) e))
told-refused (refused n p) k number place e =
    let a : n ≡ number = cc in
    let b : p ≡ place = cc in
    ap (λ (x : ℕ). refused x p) a ∙ ap (refused number) b

-- ---- the reader's

-- a sheet of n arc words was read: what it says, the request, and the words in front of the lent ones
pub record SheetRead (s buffer : List ℕ) (n : ℕ) : Type 0 where
  pub sheet : Readable s (length buffer)
  pub can_be : Sheetable sheet.nodes sheet.criteria sheet.arcs sheet.words sheet.asks
  pub count : n ≡ length sheet.words
  pub request : read_request s (length buffer) ≡ request_from sheet.nodes sheet.criteria sheet.asks
  pub stored : take n (arcs_after s buffer) ≡ sheet.words

-- the request, where no row holds
clear-request : (s : List ℕ) (room : ℕ) → weigh (reader_rows s room) ≡ clear → read_request s room ≡ request_of (sheet_of s)
unfolding read_request
clear-request s room e = rw e refl

-- and the words
clear-arcs : (s buffer : List ℕ) → weigh (reader_rows s (length buffer)) ≡ clear → arcs_after s buffer ≡ write buffer 0 (words_of (sheet_of s))
unfolding arcs_after
clear-arcs s buffer e = rw e refl

-- an answer with the count n tells that
pub read_told : (s buffer : List ℕ) (n : ℕ) → counted n ≡ read_says s (length buffer) → SheetRead s buffer n
unfolding read_says
read_told s buffer n e =
    let t = told-clear (weigh (reader_rows s (length buffer))) (length (words_of (sheet_of s))) n (sym e) in
    let r = readable s (length buffer) t.0 in
    let w : words_of (sheet_of s) ≡ r.words = ap words_of r.so in
    let c : n ≡ length r.words = sym t.1 ∙ ap length w in
    record {
      sheet = r;
      can_be = sheetable r.nodes r.criteria r.arcs s r.words r.asks r.so;
      count = c;
      request = clear-request s (length buffer) t.0 ∙ ap request_of r.so;
      stored = ap (take n) (clear-arcs s buffer t.0) ∙ ap (λ (l : List ℕ). take n (write buffer 0 l)) w ∙ front-is buffer r.words n r.fits c;
    }

-- a refusal of the reader: its row is the first that holds, and the words are as they came
pub read-refused-told : (s buffer : List ℕ) (r : Refusal) → said (Err r) ≡ read_says s (length buffer)
    → (weigh (reader_rows s (length buffer)) ≡ refused (number_of r) (place_of r)) × (arcs_after s buffer ≡ buffer)
unfolding read_says arcs_after
read-refused-told s buffer r e =
    let w : weigh (reader_rows s (length buffer)) ≡ refused (number_of r) (place_of r) = told-refused (weigh (reader_rows s (length buffer))) (length (words_of (sheet_of s))) (number_of r) (place_of r) e in
    (w, rw w refl)

-- ---- the writer's

-- a sheet of n bytes was written, in front of the lent ones
pub record SheetWritten (r : Request) (words buffer : List ℕ) (n : ℕ) : Type 0 where
  pub can_be : Writable r words (length buffer)
  pub count : n ≡ length (written r words)
  pub stored : take n (sheet_after r words buffer) ≡ written r words

-- an answer with the count n tells that
pub written-told : (r : Request) (words buffer : List ℕ) (n : ℕ) → counted n ≡ write_says r words (length buffer) → SheetWritten r words buffer n
unfolding write_says sheet_after
written-told r words buffer n e =
    let t = told-clear (weigh (writer_rows r words (length buffer))) (length (written r words)) n (sym e) in
    let w = writable r words (length buffer) t.0 in
    record { can_be = w; count = sym t.1; stored = rw t.0 (front-is buffer (written r words) n w.fits (sym t.1)) }

-- a refusal of the writer: its row is the first that holds, and the bytes are as they came
pub write-refused-told : (r : Request) (words buffer : List ℕ) (q : Refusal) → writing_said (Err q) ≡ write_says r words (length buffer)
    → (weigh (writer_rows r words (length buffer)) ≡ refused (number_of q) (place_of q)) × (sheet_after r words buffer ≡ buffer)
unfolding write_says sheet_after
write-refused-told r words buffer q e =
    let w : weigh (writer_rows r words (length buffer)) ≡ refused (number_of q) (place_of q) =
    told-refused (weigh (writer_rows r words (length buffer))) (length (written r words)) (number_of q) (place_of q) e in
    (w, rw w refl)
