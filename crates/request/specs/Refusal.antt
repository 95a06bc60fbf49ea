-- Document 01, "Refusal numbers": the number and the place of each refusal, and the refusal that has them. Assumes nothing.
use Rattle.std.specs.Prelude.{ℕ, ◌≡◌, cond, eqb, Result, Ok, Err}
use Rattle.words.specs.Rows.{Weighed, clear, refused}
use Rattle.request.specs.declared.Refusal.{Refusal}
use Rattle.request.specs.declared.Refusal.TheVariants.{Form, Nodes, Criteria, Source, Hops, Ratio, ArcWords, Arc, Loop, Buckets, Labels, Digits, Bytes, Room, Place, Chain}

-- "No.": the paper's number
abbrev pub number_of : Refusal → ℕ
number_of (Form p) = 1
number_of Nodes = 2
number_of Criteria = 3
number_of Source = 4
number_of Hops = 5
number_of (Ratio p) = 6
number_of ArcWords = 7
number_of (Arc p) = 8
number_of (Buckets p) = 9
number_of Labels = 10
number_of Digits = 11
number_of Bytes = 12
number_of (Room p) = 13
number_of Place = 14
number_of (Chain p) = 16
number_of (Loop p) = 17

-- "place is 0 where none is named"
abbrev pub place_of : Refusal → ℕ
place_of (Form p) = p
place_of Nodes = 0
place_of Criteria = 0
place_of Source = 0
place_of Hops = 0
place_of (Ratio p) = p
place_of ArcWords = 0
place_of (Arc p) = p
place_of (Buckets p) = p
place_of Labels = 0
place_of Digits = 0
place_of Bytes = 0
place_of (Room p) = p
place_of Place = 0
place_of (Chain p) = p
place_of (Loop p) = p

-- the refusal of a row with this number and place: the row's number chooses it
unfoldable pub refusal_of : ℕ → ℕ → Refusal
refusal_of n p =
    cond (eqb n 1) (Form p)
    (cond (eqb n 2) Nodes
    (cond (eqb n 3) Criteria
    (cond (eqb n 4) Source
    (cond (eqb n 5) Hops
    (cond (eqb n 6) (Ratio p)
    (cond (eqb n 7) ArcWords
    (cond (eqb n 8) (Arc p)
    (cond (eqb n 9) (Buckets p)
    (cond (eqb n 10) Labels
    (cond (eqb n 11) Digits
    (cond (eqb n 12) Bytes
    (cond (eqb n 13) (Room p)
    (cond (eqb n 14) Place
    (cond (eqb n 16) (Chain p)
    (Loop p)))))))))))))))

-- that a number and a place are a refusal's: its own number and place are these
unfoldable pub Named : ℕ → ℕ → Type 0
Named n p = (number_of (refusal_of n p) ≡ n) × (place_of (refusal_of n p) ≡ p)

-- what an answer says that is a refusal or holds something: by its refusal table
abbrev pub said : {A : Type 0} → Result A Refusal → Weighed
said (Ok x) = clear
said (Err r) = refused (number_of r) (place_of r)

-- an answer by the table that was weighed for it: x where no row holds, else the refusal
abbrev pub answer : {A : Type 0} → Weighed → A → Result A Refusal
answer clear x = Ok x
answer (refused n p) x = Err (refusal_of n p)
