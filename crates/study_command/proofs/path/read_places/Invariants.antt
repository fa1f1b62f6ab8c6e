use Rattle.std.proofs.Common.{◌≡◌, ◌++◌, true, length, map}
use Rattle.std.specs.List.{list_all}
use Rattle.std.specs.Str.Parse.{digits_value}
use Rattle.study_command.specs.Paths.{is_place, places_in}
use Rattle.study_command.proofs.path.read_places.Given as goal

abbrev pub invariant-loop-found : goal.invariant-loop-found
invariant-loop-found g l =
    (l.found ++ map (digits_value 10) (places_in l.rest) ≡ map (digits_value 10) (places_in l.fn.path))
    × (list_all is_place (places_in l.rest) ≡ true)

abbrev pub decreases-loop-found : goal.decreases-loop-found
decreases-loop-found g l = length l.rest
