use Rattle.std.proofs.Common.{◌≡◌, Some, None, sym, ◌∙◌}
use Rattle.study_index.specs.Computed.{position_numbered}
use Rattle.study_retro.proofs.EarlierChess.{before_leads, leads_before, leads_numbered}
use Rattle.study_retro.proofs.class_game.ClassGameGame.earlier.Goals as goal

pub returns-in-None-clause-all : goal.returns-in-None-clause-all
returns-in-None-clause-all g c = λ n t.
    let q = leads_numbered c.args.self.now.class c.args.number n t in
    let none : position_numbered c.args.self.now.class c.args.number ≡ None = sym c.decode.ensures.value ∙ c.in-None.is in
    absurd (let no : None ≡ Some q.0 = sym none ∙ q.1 in cc)

pub predecessor_numbers-requires : goal.predecessor_numbers-requires
predecessor_numbers-requires g c = sym c.decode.ensures.value ∙ c.in-Some.is

pub returns-in-Some-clause-all : goal.returns-in-Some-clause-all
returns-in-Some-clause-all g c = λ n t.
    let e : position_numbered c.args.self.now.class c.args.number ≡ Some c.in-Some.at = sym c.decode.ensures.value ∙ c.in-Some.is in
    (c.predecessor_numbers.ensures n).1 (leads_before c.args.self.now.class c.args.number n c.in-Some.at e t)

pub returns-in-Some-clause-only : goal.returns-in-Some-clause-only
returns-in-Some-clause-only g c = λ n h.
    let e : position_numbered c.args.self.now.class c.args.number ≡ Some c.in-Some.at = sym c.decode.ensures.value ∙ c.in-Some.is in
    let b = (c.predecessor_numbers.ensures n).0 h in
    before_leads c.args.self.now.class c.args.number n c.in-Some.at b.by e b.is
