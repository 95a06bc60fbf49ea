-- What the search for a route tells of the read-back: an answer that holds a route, or none where the cell is empty, or a refusal. Assumes nothing.
use Rattle.std.specs.Prelude.{ℕ, List, [], ◌∷◌, Option, Some, None, Result, Ok, Err}
use Rattle.request.specs.declared.Refusal.{Refusal}
use Rattle.route.specs.declared.Found.{Found}
use Rattle.route.specs.declared.Ending.{Ending}
use Rattle.route.specs.declared.Ending.TheVariants as ending

-- "a route, an empty cell (number 15), or a refusal with its place"
abbrev pub found_ending : Result (Option Found) Refusal → Ending
found_ending (Ok (Some f)) = ending.Route f.count
found_ending (Ok None) = ending.Empty
found_ending (Err r) = ending.Refused r

-- "a route returns its arc count and costs"; there are none elsewhere
abbrev pub found_costs : Result (Option Found) Refusal → List ℕ
found_costs (Ok (Some f)) = f.costs
found_costs (Ok None) = 0 ∷ 0 ∷ 0 ∷ []
found_costs (Err r) = 0 ∷ 0 ∷ 0 ∷ []
