-- What an answer of the reader, the writer or the build tells the call that packs it. Assumes nothing.
use Prim.Native.Nat.{ℕ, ◌<◌}
use mathlib.Core.Path.{◌≡◌, refl, sym, ap, ◌∙◌, subst}
use mathlib.Core.List.{List, [], ◌∷◌}
use native.Mathlib.Omega.{arith}
use lib.ListN.{length}
use Rattle.words.specs.Rows.{Weighed, clear, refused, weigh, settle}
use Rattle.request.specs.declared.Refusal.{Refusal}
use Rattle.sheet.specs.Grammar.{sheet_of}
use Rattle.sheet.specs.Answer.{refusal_said, counted, told}
use Rattle.sheet.specs.Reader.{words_of, reader_rows, read_says, read_request}
use Rattle.desk.specs.Packed.{pack, packed, Answer}
use Rattle.desk.specs.Calls.{request_words, request_after}
use Rattle.desk.proofs.Packing.{count_small, packed-count}

-- ---- any answer that counts

pub count-few : (a : List ℕ) → Answer a → (n : ℕ) → 0 ∷ 0 ∷ n ∷ [] ≡ a → n < 4294967296
count-few a ok n e = count_small n (subst Answer (sym e) ok)

pub count-packed : (a : List ℕ) (n : ℕ) → 0 ∷ 0 ∷ n ∷ [] ≡ a → pack 0 0 n ≡ packed a
count-packed a n e = packed-count n ∙ ap packed e

-- ---- the request words after the reader's

module _ (s arcs words : List ℕ) where
  -- a refusal leaves them
  pub request-left : (r : Refusal) → refusal_said r ≡ read_says s (length arcs) → words ≡ request_after s (length arcs) words
  unfolding request_after read_says
  request-left r = left (weigh (reader_rows s (length arcs)))
    where
      left : (w : Weighed) → refusal_said r ≡ told w (length (words_of (sheet_of s))) → words ≡ settle w (request_words (read_request s (length arcs))) words
      left clear e = absurd (omega (arith, ap (length {A = ℕ}) e))
      left (refused n p) e = refl

  -- a sheet fills them
  pub request-filled : (n : ℕ) → counted n ≡ read_says s (length arcs) → request_words (read_request s (length arcs)) ≡ request_after s (length arcs) words
  unfolding request_after read_says
  request-filled n = filled (weigh (reader_rows s (length arcs)))
    where
      filled : (w : Weighed) → counted n ≡ told w (length (words_of (sheet_of s))) → request_words (read_request s (length arcs)) ≡ settle w (request_words (read_request s (length arcs))) words
      filled clear e = refl
      filled (refused m p) e = absurd (omega (arith, ap (length {A = ℕ}) e))
