-- The answers of a listing have room in a packed number. Assumes nothing.
use Prim.Native.Nat.{ℕ, ◌*◌, ◌<◌}
use mathlib.Core.Path.{◌≡◌, refl}
use mathlib.Core.List.{List}
use native.Mathlib.Omega.{arith}
use lib.ListN.{length}
use lib.Dec.{nltb→le}
use Rattle.words.specs.Rows.{Weighed, clear, weigh}
use Rattle.words.proofs.Rows.{weigh-clear-front, weigh-clear-back, clear-cons}
use Rattle.request.specs.declared.Request.{Request}
use Rattle.request.specs.Request.{asked, width}
use Rattle.request.specs.Shape.{label_count}
use Rattle.request.specs.Rows.{rows}
use Rattle.request.specs.Refusal.{answer}
use Rattle.request.specs.Accepted.{Accepted}
use Rattle.sheet.specs.Grammar.{sheet_of}
use Rattle.sheet.specs.Reader.{words_of, request_of, form_rows}
use Rattle.listing.specs.List.{asks, listing_of, request_rows, list_rows, listed_of, said}
use Rattle.listing.proofs.Suffices.{listing-few}
use Rattle.desk.specs.Packed.{Answer}
use Rattle.desk.proofs.Sound.{Sound, sound-append, sound_more, table-answer, refusal-answer}
use Rattle.desk.proofs.Answers.{form-sound}
use Rattle.desk.proofs.Builds.{rows-sound}

request-sound : (q : Request) (arcs : List ℕ) (room : ℕ) → Sound (request_rows (asked q arcs) room)
unfolding request_rows
request-sound q arcs room = sound_more (rows (asked q arcs)) _ (rows-sound q arcs) tt

list-sound : (s : List ℕ) (room : ℕ) → Sound (list_rows s room)
unfolding list_rows asks
list-sound s room =
    sound-append (form_rows s) (request_rows (asks s) room) (form-sound s) (λ _. request-sound (request_of (sheet_of s)) (words_of (sheet_of s)) room)

-- a table of at most 12,288 words: its listing is under 53,000 bytes
listing-short : (s : List ℕ) (room : ℕ) → weigh (list_rows s room) ≡ clear → length (listing_of (asks s)) < 4294967296
unfolding list_rows request_rows asks Accepted
listing-short s room e =
    let all = weigh-clear-back (form_rows s) (request_rows (asks s) room) e in
    let few = (clear-cons _ _ (weigh-clear-back (rows (asks s)) _ all)).0 in
    omega (
      arith,
      listing-few (request_of (sheet_of s)) (words_of (sheet_of s)) (weigh-clear-front (rows (asks s)) _ all) (nltb→le 12288 (label_count (asks s) * width (asks s)) few),
    )

pub list-answer : (s : List ℕ) (room : ℕ) → Answer (said (listed_of s room))
unfolding listed_of
list-answer s room =
    let n = length (listing_of (asks s)) in
    table-answer (λ (w : Weighed). said (answer w n)) n refl refusal-answer (list_rows s room) (list-sound s room) (listing-short s room)
