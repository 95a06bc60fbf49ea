-- The reader's and the writer's answers have room in a packed number. Assumes nothing.
use Prim.Native.Nat.{ℕ, suc, ◌+◌, ◌≤◌}
use mathlib.Core.Path.{◌≡◌, refl, ap}
use mathlib.Core.List.{List, [], ◌∷◌}
use native.Mathlib.Omega.{arith}
use lib.ListN.{length, length-append}
use lib.Dec.{eqb, ltb, nltb→le}
use Rattle.words.specs.Rows.{Weighed}
use Rattle.words.proofs.Choices.{cond_cases}
use Rattle.request.specs.Rows.{arc_words_row}
use Rattle.request.specs.declared.Request.{Request}
use Rattle.sheet.specs.Grammar.{Contents, whole, broken, lf, sheet_of}
use Rattle.sheet.specs.Answer.{told}
use Rattle.sheet.specs.FirstBad.{ends}
use Rattle.sheet.specs.Reader.{bad_line, words_of, form_rows, reader_rows, read_says}
use Rattle.sheet.specs.Writer.{written, writer_rows, write_says}
use Rattle.sheet.proofs.Clear.{writable}
use Rattle.sheet.proofs.FirstBad.{first-bad-line}
use Rattle.listing.proofs.Rooms.{words-few}
use Rattle.desk.specs.Packed.{Answer}
use Rattle.desk.proofs.Sound.{Sound, sound-listed, sound_more, table-answer, refusal-said, small-room}

-- ---- the reader

-- no more lines end than there are bytes
ends-le : (s : List ℕ) → ends s ≤ length s
unfolding ends
ends-le [] = omega arith
ends-le (c ∷ cs) = let h = ends-le cs in cond_cases (λ (n : ℕ). n ≤ suc (length cs)) (eqb c lf) (λ _. omega arith) (λ _. omega arith)

-- "first bad line from 1; one more than the lines": at most one more than the bytes
bad-line-le : (s : List ℕ) → bad_line (sheet_of s) ≤ length s + 1
bad-line-le s = go (sheet_of s) refl
  where
    go : (p : Contents) → sheet_of s ≡ p → bad_line p ≤ length s + 1
    go (whole n d m words asks) e = omega arith
    go (broken k) e =
        let b = (first-bad-line s k e).first in
        let h = ends-le b.front in
        let l = length-append b.front b.rest in
        omega (arith, ap length b.parts, b.place)

pub form-sound : (s : List ℕ) → Sound (form_rows s)
form-sound s = (
  λ _. small-room 12 0 tt,
  λ short. (
    (λ _. record { some = omega arith; few = omega arith; near = omega (arith, bad-line-le s, nltb→le 8192 (length s) short) }),
    (λ _. tt),
  ),
)

reader-sound : (s : List ℕ) (room : ℕ) → Sound (reader_rows s room)
reader-sound s room = sound_more (form_rows s) (record { number = 13; holds = ltb room (length (words_of (sheet_of s))); place = 1 } ∷ []) (form-sound s) tt

pub read_answer : (s : List ℕ) (room : ℕ) → Answer (read_says s room)
unfolding read_says
read_answer s room =
    let n = length (words_of (sheet_of s)) in
    table-answer (λ (w : Weighed). told w n) n refl refusal-said (reader_rows s room) (reader-sound s room) (λ _. omega (arith, words-few s))

-- ---- the writer

pub write-answer : (r : Request) (words : List ℕ) (room : ℕ) → Answer (write_says r words room)
unfolding write_says arc_words_row
write-answer r words room =
    let n = length (written r words) in
    table-answer (λ (w : Weighed). told w n) n refl refusal-said (writer_rows r words room) (sound-listed (writer_rows r words room) tt) (λ e. omega (arith, (writable r words room e).short))
