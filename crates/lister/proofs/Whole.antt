-- What is printed for the first 8,193 bytes of a sheet is what is printed for the whole.
use Rattle.std.proofs.Common.{ℕ, List, [], ◌++◌, ◌≡◌, ◌<◌, ◌≤◌, length, take, Option, None, Some, Result, Ok, Err, OnOk, IfSome, sym, ap, ◌∙◌, subst, arith, inl, inr, append-nil, length-append, length-take-le}
use Rattle.std.specs.Prelude.{⊤, ◌⊎◌}
use Rattle.std.specs.Io.KnownBytes.{Appends, Consumes, IsAtEnd}
use borrow.Author.Tests.{lt-ltb}
use Rattle.words.specs.Rows.{Weighed}
use Rattle.words.proofs.Rows.{weigh-held}
use Rattle.words.proofs.Choices.{true-is, lt-or-le}
use Rattle.listing.specs.Listing.{refusal_line}
use Rattle.listing.specs.List.{asks, listing_of}
use Rattle.printout.specs.Printout.{printout_rows, printed, printout_of}

-- a sheet of over 8,192 bytes is refused, whatever they are
too-long : (s : List ℕ) → 8192 < length s → printout_of s ≡ refusal_line 12 0
unfolding printout_of printout_rows
too-long s h = ap (λ (w : Weighed). printed w (listing_of (asks s))) (weigh-held _ _ (true-is (lt-ltb 8192 (length s) h)))

-- n bytes were read, and more are left only where n is 8,193
printed-whole : (s rest front : List ℕ) (n : ℕ) → length front ≡ n → s ≡ front ++ rest → (n < 8193 → rest ≡ []) → printout_of front ≡ printout_of s
printed-whole s rest front n e split left = go (lt-or-le n 8193)
  where
    go : (n < 8193) ⊎ (8193 ≤ n) → printout_of front ≡ printout_of s
    go (inl l) = ap printout_of (sym (split ∙ ap (λ (r : List ℕ). front ++ r) (left l) ∙ append-nil front))
    go (inr l) = too-long front (omega arith) ∙ sym (too-long s (omega (arith, ap length split, length-append front rest)))

-- the same of what a reader gave and a writer took
pub lists : {E : Type 0} (r : Result ⊤ E) (a b x y : Option (List ℕ)) (bytes : List ℕ) (n : ℕ) → length bytes ≡ 8193 → n ≤ length bytes
    → Consumes a b (take n bytes) → (n < length bytes → IsAtEnd b) → OnOk r (Appends x y (printout_of (take n bytes)))
    → OnOk r (IfSome a (λ s. Appends x y (printout_of s)))
lists (Err e) a b x y bytes n long fits read end said = tt
lists (Ok u) None b x y bytes n long fits read end said = tt
lists (Ok u) (Some s) None x y bytes n long fits read end said = absurd read
lists (Ok u) (Some s) (Some rest) x y bytes n long fits read end said =
    subst (Appends x y) (printed-whole s rest (take n bytes) n (length-take-le n bytes fits) read (λ (l : n < 8193). end (omega arith))) said
