use Rattle.study_search.proofs.by_cells.next_on_page.Goals as goal

pub returns-in-Ok-clause-game : goal.returns-in-Ok-clause-game
returns-in-Ok-clause-game g c h = c.next_facing.ensures.game (c.read_page.ensures.honest h) (c.in-Ok.ensures.game h)
