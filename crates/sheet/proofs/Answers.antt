-- The reader's answer by its refusal table, and that an answer's numbers tell the answer. Assumes nothing.
use Prim.Native.Nat.{ℕ, ◌≤◌, ◌<◌}
use mathlib.Core.Path.{◌≡◌, refl, ap, ◌∙◌, sym}
use mathlib.Core.List.{List}
use mathlib.Core.Bool.{false}
use native.Mathlib.Omega.{arith}
use lib.ListN.{length, drop}
use borrow.Author.Tests.{lt-ltb, le-ltb}
use Rattle.std.proofs.Common.{Result, Ok, Err, IfOk}
use Rattle.words.specs.Pieces.{write}
use Rattle.words.specs.Rows.{clear, refused, weigh}
use Rattle.words.proofs.Rows.{weigh-held, weigh-passed, weigh-none}
use Rattle.words.proofs.Choices.{true-is, false-is}
use Rattle.request.specs.declared.Request.{Request}
use Rattle.request.specs.declared.Refusal.{Refusal}
use Rattle.request.specs.declared.Refusal.TheVariants as refusal
use Rattle.request.specs.Refusal.{number_of, place_of, refusal_of}
use Rattle.request.proofs.Named.{refusal-of}
use Rattle.sheet.specs.declared.reader.Form.{Form}
use Rattle.sheet.specs.declared.Reading.{Reading}
use Rattle.sheet.specs.Grammar.{Contents, whole, broken, sheet_of}
use Rattle.sheet.specs.Inside.{form_of}
use Rattle.sheet.specs.Answer.{refusal_said}
use Rattle.sheet.specs.Reader.{said, is_broken, bad_line, words_of, request_of, reader_rows, read_says, read_request, arcs_after}

-- ---- one to one

-- two refusals of one number and place are the same
pub same-refusal : (q r : Refusal) → refusal_said q ≡ refusal_said r → q ≡ r
same-refusal q r e =
    let n : number_of q ≡ number_of r = cc in
    let p : place_of q ≡ place_of r = cc in
    sym (refusal-of q) ∙ ap (λ (x : ℕ). refusal_of x (place_of q)) n ∙ ap (refusal_of (number_of r)) p ∙ refusal-of r

-- two answers that say the same, and hold the same request where they hold one, are the same
pub said-once : (a b : Result Reading Refusal) (r : Request) → IfOk a (λ s. s.request ≡ r) → IfOk b (λ s. s.request ≡ r) → said a ≡ said b → a ≡ b
said-once (Ok s) (Ok t) r g h e =
    let w : s.words ≡ t.words = cc in
    let q : s.request ≡ t.request = g ∙ sym h in
    ap (λ (z : Request). Ok (record { request = z; words = s.words })) q ∙ ap (λ (x : ℕ). Ok (record { request = t.request; words = x })) w
said-once (Ok s) (Err q) r g h e = absurd (omega (arith, ap (length {A = ℕ}) e))
said-once (Err q) (Ok s) r g h e = absurd (omega (arith, ap (length {A = ℕ}) e))
said-once (Err p) (Err q) r g h e = ap Err (same-refusal p q e)

-- ---- the form, as it was checked

-- a sheet whose form was refused is broken at the line that the refusal names
broken-was : (p : Contents) (r : Refusal) → form_of p ≡ Err r → (p ≡ broken (place_of r)) × (r ≡ refusal.Form (place_of r))
broken-was (whole n d m words asks) r e = let z : ◌≡◌ {A = ℕ} 0 1 = cc in absurd (omega arith)
broken-was (broken j) r e =
    let q : refusal.Form j ≡ r = cc in
    let k : j ≡ place_of r = ap place_of q in
    (ap broken k, sym q ∙ ap refusal.Form k)

-- one that was checked as whole is not broken
whole-not-broken : (p : Contents) (f : Form) → form_of p ≡ Ok f → is_broken p ≡ false
whole-not-broken (whole n d m words asks) f e = refl
whole-not-broken (broken j) f e = let z : ◌≡◌ {A = ℕ} 0 1 = cc in absurd (omega arith)

-- ---- the first row that holds

module _ (s : List ℕ) (l : List ℕ) where
  -- what the reader has to answer, and to leave in the lent words
  pub record Reads (r : Result Reading Refusal) (l' : List ℕ) : Type 0 where
    pub value : said r ≡ read_says s (length l)
    pub request : IfOk r (λ v. v.request ≡ read_request s (length l))
    pub arcs : l' ≡ arcs_after s l

  -- a refusal: its number and place, and the words as they came
  refuses : (r : Refusal) → weigh (reader_rows s (length l)) ≡ refused (number_of r) (place_of r) → Reads (Err r) l
  unfolding read_says arcs_after
  refuses r e = record { value = rw e refl; request = tt; arcs = rw e refl }

  -- row 12
  pub reads-long : 8192 < length s → Reads (Err refusal.Bytes) l
  reads-long h = refuses refusal.Bytes (weigh-held _ _ (true-is (lt-ltb 8192 (length s) h)))

  module _ (fits : length s ≤ 8192) where
    past-long : weigh (reader_rows s (length l)) ≡ weigh (drop 1 (reader_rows s (length l)))
    past-long = weigh-passed _ _ (false-is (le-ltb 8192 (length s) fits))

    -- row 1
    pub reads-broken : (r : Refusal) → form_of (sheet_of s) ≡ Err r → Reads (Err r) l
    reads-broken r e =
        let b = broken-was (sheet_of s) r e in
        refuses r
        (past-long ∙ weigh-held _ _ (true-is (ap is_broken b.0)) ∙ ap (λ (p : Contents). refused 1 (bad_line p)) b.0
        ∙ ap (λ (n : ℕ). refused n (place_of r)) (sym (ap number_of b.1)))

    module _ (f : Form) (e : form_of (sheet_of s) ≡ Ok f) where
      past-form : weigh (reader_rows s (length l)) ≡ weigh (drop 2 (reader_rows s (length l)))
      past-form = past-long ∙ weigh-passed _ _ (false-is (whole-not-broken (sheet_of s) f e))

      -- row 13
      pub reads_short : length l < length (words_of (sheet_of s)) → Reads (Err (refusal.Room 1)) l
      reads_short h = refuses (refusal.Room 1) (past-form ∙ weigh-held _ _ (true-is (lt-ltb (length l) (length (words_of (sheet_of s))) h)))

      -- no row
      pub reads-sheet : length (words_of (sheet_of s)) ≤ length l
          → Reads (Ok (record { request = request_of (sheet_of s); words = length (words_of (sheet_of s)) })) (write l 0 (words_of (sheet_of s)))
      unfolding read_says read_request arcs_after
      reads-sheet h =
          let w : weigh (reader_rows s (length l)) ≡ clear =
          past-form ∙ weigh-passed _ _ (false-is (le-ltb (length l) (length (words_of (sheet_of s))) h)) ∙ weigh-none in
          record { value = rw w refl; request = rw w refl; arcs = rw w refl }

  -- ---- two answers that the promise allows are the same

  -- they say the same, so they are the same; request and words are given by equations
  pub reads-once : (q r : Result Reading Refusal) (x y : List ℕ) → Reads q x → Reads r y → (q ≡ r) × (x ≡ y)
  reads-once q r x y a b = (said-once q r (read_request s (length l)) a.request b.request (a.value ∙ sym b.value), a.arcs ∙ sym b.arcs)
