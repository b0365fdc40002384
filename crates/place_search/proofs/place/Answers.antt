-- `place_search::place` meets its contract. Assumes nothing.
use Rattle.place_search.proofs.SearchLaws.{place_told, none_told, count_told}
use Rattle.place_search.proofs.place.Goals as goal

pub returns-in-Some : goal.returns-in-Some
returns-in-Some c = (search place_told, search count_told)

pub returns-in-None : goal.returns-in-None
returns-in-None c = (search none_told, search count_told)
