use Rattle.std.proofs.Common.{◌≡◌, ◌==◌, ◌&&◌, ◌||◌, drop}
use Rattle.std.specs.List.{list_any}
use Rattle.study_board.specs.Geometry.{file_of, rank_of}
use Rattle.study_notation.specs.SanSpelling.{is_rival, has_rival, has_file_rival}
use Rattle.study_wide_text.specs.SanSpelling.{has_rank_rival}
use Rattle.study_wide_text.proofs.san_writer.rivals_of.Given as goal

-- with the rivals among the men that are left these are all
abbrev pub invariant-loop-o : goal.invariant-loop-o
invariant-loop-o l = record {
  any : (l.found.any || list_any (is_rival l.p.board l.man l.x) (drop l.o-index l.men)) ≡ has_rival l.p.board l.man l.x;
  on_file : (l.found.on_file || list_any (λ o. is_rival l.p.board l.man l.x o && file_of o.at == file_of l.man.at) (drop l.o-index l.men))
      ≡ has_file_rival l.p.board l.man l.x;
  on_rank : (l.found.on_rank || list_any (λ o. is_rival l.p.board l.man l.x o && rank_of o.at == rank_of l.man.at) (drop l.o-index l.men))
      ≡ has_rank_rival l.p.board l.man l.x;
}
