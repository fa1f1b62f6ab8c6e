use Rattle.std.proofs.Common.{◌≡◌, ◌<◌, ℕ, ◌∙◌, inl, inr, sym, ap, subst, arith, true, List, ◌++◌, Contains}
use Rattle.std.proofs.lemmas.Bool.{false≢true}
use Rattle.study_board.specs.declared.men.Man.{Man}
use Rattle.study_board.specs.declared.men.Side.{Side}
use Rattle.study_board.specs.Sets.{has}
use Rattle.study_moves.specs.declared.moves.Move.{Move}
use Rattle.study_moves.specs.Rules.{is_legal}
use Rattle.study_moves.specs.AnyOrder.{is_safe_target}
use Rattle.study_retro.specs.Still.{promotion_to, promotions_to}
use Rattle.study_retro.proofs.LeavingLemmas.{four_kept, four_more, four_only, four_there, last_or_before}
use Rattle.study_retro.proofs.LeavingLemmas.{parts, promotion_is, promotion_legal, reached, target_on}
use Rattle.study_retro.proofs.captures.add_promotions_of.Goals as goal
use Rattle.study_retro.proofs.captures.add_promotions_of.Goals.{then-contains, else-contains}

pub loop-number-preserved : goal.loop-number-preserved
loop-number-preserved c =
    let q = c.args.at.now in
    let man = c.args.pawn.now in
    let n = c.loop-number.number in
    let inv = c.loop-number.invariant in
    let xs = c.loop-number.list.items in
    let at : c.at-target.result ≡ n = c.at-target.ensures in
    let on : n < 64 = (let r = c.promotion_range-start.ensures.range in let t = c.loop-number-test.true in omega (arith, r.1, t)) in
    let word : has c.safe_targets-safe.result n ≡ is_safe_target q.men q.to_move man n =
    c.safe_targets-safe.ensures n on
    ∙ ap (λ (s : Side). is_safe_target c.men.result.now s man n) c.to_move.ensures
    ∙ ap (λ (zs : List Man). is_safe_target zs q.to_move man n) c.men.ensures.value in
    let test : c.contains.result ≡ has c.safe_targets-safe.result n =
    c.contains.ensures ∙ ap (λ (x : ℕ). has c.safe_targets-safe.result x) at in
    elim c.if-contains.branch [
      | then-contains w ↦ rw w.list-is (
          let ys = w.add_promotions_to.new.list.items in
          let more : ys ≡ xs ++ promotions_to man n = w.add_promotions_to.ensures ∙ ap (λ (x : ℕ). xs ++ promotions_to man x) at in
          let safe : is_safe_target q.men q.to_move man n ≡ true = sym word ∙ sym test ∙ w.if-contains.true in
          record {
            few = (let f = inv.few in omega (arith, f, four_more xs ys man n more));
            only = four_only xs ys man n more (λ m. is_legal q m ≡ true) inv.only
                (promotion_legal q c.requires.tells man c.requires.pawn c.requires.side c.requires.near n on safe);
            kept = λ m k. four_kept xs ys man n more m (inv.kept m k);
            all = λ x low high h k piece. elim (last_or_before x n high) [
              | inl before ↦ four_kept xs ys man n more (promotion_to man x k) (inv.all x low before h k piece)
              | inr same ↦ subst (λ (y : ℕ). Contains ys (promotion_to man y k)) (sym same) (four_there xs ys man n more k piece)
            ];
          })
      | else-contains w ↦ rw w.list-is (record {
        few = (let f = inv.few in omega (arith, f));
        only = inv.only;
        kept = inv.kept;
        all = λ x low high h k piece. elim (last_or_before x n high) [
          | inl before ↦ inv.all x low before h k piece
          | inr same ↦ absurd (false≢true (sym w.if-contains.false ∙ test ∙ ap (λ (y : ℕ). has c.safe_targets-safe.result y) (sym same) ∙ h))
        ];
      })
    ]

pub returns-clause-all : goal.returns-clause-all
returns-clause-all c = λ m origin legal.
    let q = c.args.at.now in
    let man = c.args.pawn.now in
    let x = m.target in
    let on = target_on q c.requires.tells man c.requires.pawn c.requires.side m origin legal in
    let range = c.promotion_range-start.ensures.all q.men x on (reached q c.requires.tells man c.requires.pawn c.requires.side m origin legal) in
    let safe : has c.safe_targets-safe.result x ≡ true =
    c.safe_targets-safe.ensures x on
    ∙ ap (λ (s : Side). is_safe_target c.men.result.now s man x) c.to_move.ensures
    ∙ ap (λ (zs : List Man). is_safe_target zs q.to_move man x) c.men.ensures.value
    ∙ (parts q c.requires.tells man c.requires.pawn c.requires.side m origin legal).0 in
    let k = promotion_is q c.requires.tells man c.requires.pawn c.requires.side m origin legal c.requires.near in
    subst (λ (n : Move). Contains c.loop-number.list.items n) k.1
    (c.loop-number.invariant.all x range.0 (let t = c.loop-number-test.false in let r = range.1 in omega (arith, t, r)) safe k.0 k.2)
