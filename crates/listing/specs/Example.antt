-- Document 01, "The lister": its printed input and output, byte by byte. Assumes nothing.
use Rattle.std.specs.Prelude.{ℕ, ◌≡◌, List, [], ◌∷◌, Ok}
use Rattle.listing.specs.List.{asks, listing_of, listed_of}

-- "Input", a line of the sheet to a line here
unfoldable pub input : List ℕ
input =
    116 ∷ 114 ∷ 97 ∷ 99 ∷ 107 ∷ 115 ∷ 9 ∷ 52 ∷ 9 ∷ 50 ∷ 10
    ∷ 97 ∷ 114 ∷ 99 ∷ 9 ∷ 48 ∷ 9 ∷ 49 ∷ 9 ∷ 52 ∷ 9 ∷ 53 ∷ 10
    ∷ 97 ∷ 114 ∷ 99 ∷ 9 ∷ 48 ∷ 9 ∷ 49 ∷ 9 ∷ 54 ∷ 9 ∷ 51 ∷ 10
    ∷ 97 ∷ 114 ∷ 99 ∷ 9 ∷ 48 ∷ 9 ∷ 50 ∷ 9 ∷ 49 ∷ 9 ∷ 57 ∷ 10
    ∷ 97 ∷ 114 ∷ 99 ∷ 9 ∷ 49 ∷ 9 ∷ 51 ∷ 9 ∷ 50 ∷ 9 ∷ 50 ∷ 10
    ∷ 97 ∷ 114 ∷ 99 ∷ 9 ∷ 50 ∷ 9 ∷ 51 ∷ 9 ∷ 54 ∷ 9 ∷ 49 ∷ 10
    ∷ 97 ∷ 115 ∷ 107 ∷ 9 ∷ 48 ∷ 9 ∷ 50 ∷ 9 ∷ 49 ∷ 9 ∷ 49 ∷ 10
    ∷ []

-- "Output, whole"
unfoldable pub output : List ℕ
output =
    99 ∷ 111 ∷ 118 ∷ 101 ∷ 114 ∷ 9 ∷ 52 ∷ 9 ∷ 56 ∷ 10
    ∷ 108 ∷ 97 ∷ 98 ∷ 101 ∷ 108 ∷ 9 ∷ 48 ∷ 9 ∷ 48 ∷ 9 ∷ 48 ∷ 9 ∷ 48 ∷ 10
    ∷ 108 ∷ 97 ∷ 98 ∷ 101 ∷ 108 ∷ 9 ∷ 49 ∷ 9 ∷ 54 ∷ 9 ∷ 51 ∷ 9 ∷ 49 ∷ 9 ∷ 49 ∷ 10
    ∷ 108 ∷ 97 ∷ 98 ∷ 101 ∷ 108 ∷ 9 ∷ 50 ∷ 9 ∷ 49 ∷ 9 ∷ 57 ∷ 9 ∷ 49 ∷ 9 ∷ 50 ∷ 10
    ∷ 108 ∷ 97 ∷ 98 ∷ 101 ∷ 108 ∷ 9 ∷ 51 ∷ 9 ∷ 56 ∷ 9 ∷ 53 ∷ 9 ∷ 50 ∷ 9 ∷ 49 ∷ 9 ∷ 51 ∷ 10
    ∷ []

-- the input's listing is the output, and it is what is answered into a buffer of just its 74 bytes
abbrev pub PrintedExample : Type 0
PrintedExample = (listing_of (asks input) ≡ output) × (listed_of input 74 ≡ Ok 74)
