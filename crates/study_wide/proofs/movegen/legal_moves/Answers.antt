use Rattle.std.proofs.Common.{◌≡◌, ◌∙◌, ◌++◌, ◌+◌, ◌<◌, ◌≤◌, ℕ, true, false, cond, List, length, drop, get_or, refl, sym, ap}
use Rattle.std.proofs.Common.{subst, arith, append_assoc, Some}
use Rattle.std.proofs.lemmas.List.{append-nil, drop_more, drop_all}
use Rattle.std.proofs.lemmas.List.Sums.{sum_by-drop_more}
use Rattle.std.specs.List.{count_by, flat_map}
use Rattle.study_board.specs.declared.men.Man.{Man}
use Rattle.study_board.specs.declared.men.Side.{Side}
use Rattle.study_board.specs.Men.{same_side}
use Rattle.study_board.specs.Position.{man_at}
use Rattle.study_board.proofs.EqualMen.{side_same}
use Rattle.study_moves.specs.declared.moves.Move.{Move}
use Rattle.study_moves.proofs.NoManBetween.{man_at-self}
use Rattle.study_wide.specs.Wide.{Wide, IsWide, of_side}
use Rattle.study_wide.specs.LegalList.{wide_legal_list, legal_from}
use Rattle.study_wide.proofs.MovesOfMan.{men_give_all, none_of_other, wide_list_exact}
use Rattle.study_wide.proofs.movegen.legal_moves.Goals as goal
use Rattle.study_wide.proofs.movegen.legal_moves.Goals.{then-eq, else-eq}

-- the moves of one man and of those after it
next_man : (g : Wide) (men : List Man) (i : ℕ) (d : Man) → i < length men
    → flat_map (λ (m : Man). legal_from g m.at) (drop i men) ≡ legal_from g (get_or men i d).at ++ flat_map (λ (m : Man). legal_from g m.at) (drop (i + 1) men)
next_man g men i d lt = ap (λ (xs : List Man). flat_map (λ (m : Man). legal_from g m.at) xs) (drop_more men i d lt)

man_here : (g : Wide) (men : List Man) (i : ℕ) (d m : Man) → IsWide g → men ≡ g.board.men → i < length men → m ≡ get_or men i d
    → man_at g.board.men m.at ≡ Some m
man_here g men i d m wide e lt is =
    let P : List Man → Type 0 = λ xs. man_at xs (get_or xs i d).at ≡ Some (get_or xs i d) in
    let lt' : i < length g.board.men = subst (λ (xs : List Man). i < length xs) e lt in
    let here = man_at-self i d g.board.men wide.sound.ordered lt' in
    let same : m ≡ get_or g.board.men i d = is ∙ ap (λ (xs : List Man). get_or xs i d) e in
    subst (λ (x : Man). man_at g.board.men x.at ≡ Some x) (sym same) here

one_of_side : (side : Side) (men : List Man) (i : ℕ) (d m : Man) → i < length men → m ≡ get_or men i d → same_side m.side side ≡ true
    → count_by (of_side side) (drop i men) ≡ 1 + count_by (of_side side) (drop (i + 1) men)
one_of_side side men i d m lt is mine =
    let it : same_side (get_or men i d).side side ≡ true = ap (λ (x : Man). same_side x.side side) (sym is) ∙ mine in
    let one : cond (same_side (get_or men i d).side side) 1 0 ≡ 1 = rw it refl in
    sum_by-drop_more (λ (x : Man). cond (of_side side x) 1 0) men i d lt ∙ ap (λ (n : ℕ). n + count_by (of_side side) (drop (i + 1) men)) one

fewer_of_side : (side : Side) (men : List Man) (i : ℕ) (d : Man) → i < length men
    → count_by (of_side side) (drop (i + 1) men) ≤ count_by (of_side side) (drop i men)
fewer_of_side side men i d lt =
    let e : count_by (of_side side) (drop i men) ≡ cond (of_side side (get_or men i d)) 1 0 + count_by (of_side side) (drop (i + 1) men) =
    sum_by-drop_more (λ (x : Man). cond (of_side side x) 1 0) men i d lt in
    omega (arith, e)

pub loop-man-init : goal.loop-man-init
loop-man-init c =
    let g = c.args.p.now in
    record {
      listed = rw (c.new-list.ensures, c.men-men.ensures.value) (men_give_all g c.men-men.ensures.valid);
      few =
          let none : length c.new-list.result.items ≡ 0 = ap (λ (l : List Move). length l) c.new-list.ensures in
          let same : count_by (of_side c.to_move-side.result) c.men-men.result.now ≡ count_by (of_side c.to_move-side.result) g.board.men =
          ap (λ (l : List Man). count_by (of_side c.to_move-side.result) l) c.men-men.ensures.value in
          let few = c.men-men.ensures.valid.few c.to_move-side.result in
          omega (arith, none, same, few);
    }

pub add_moves_of-requires-clause-here : goal.add_moves_of-requires-clause-here
add_moves_of-requires-clause-here c =
    man_here c.args.p.now c.men-men.result.now c.loop-man.man-index c.man-item.result c.man-item.result c.men-men.ensures.valid c.men-men.ensures.value
    c.loop-man-test.true c.man-item.is

pub add_moves_of-requires-clause-room : goal.add_moves_of-requires-clause-room
add_moves_of-requires-clause-room c =
    let one = one_of_side c.to_move-side.result c.men-men.result.now c.loop-man.man-index c.man-item.result c.man-item.result
    c.loop-man-test.true c.man-item.is
    (sym (c.eq.ensures ∙ side_same _ _) ∙ c.if-eq.true) in
    omega (arith, c.loop-man.invariant.few, one)

pub loop-man-preserved : goal.loop-man-preserved
loop-man-preserved c =
    let g = c.args.p.now in
    let men = c.men-men.result.now in
    let i = c.loop-man.man-index in
    let man = c.man-item.result in
    let lt = c.loop-man-test.true in
    let side : same_side man.side c.to_move-side.result ≡ c.eq.result = sym (c.eq.ensures ∙ side_same _ _) in
    let rest = flat_map (λ (m : Man). legal_from g m.at) (drop (i + 1) men) in
    let at : legal_from g (get_or men i man).at ≡ legal_from g man.at = ap (λ (x : Man). legal_from g x.at) (sym c.man-item.is) in
    let whole : c.loop-man.list.items ++ (legal_from g man.at ++ rest) ≡ wide_legal_list g =
    ap (λ (l : List Move). c.loop-man.list.items ++ (l ++ rest)) (sym at)
    ∙ (ap (λ (l : List Move). c.loop-man.list.items ++ l) (sym (next_man g men i man lt)) ∙ c.loop-man.invariant.listed) in
    elim c.if-eq.branch [
      | then-eq w ↦ rw w.list-is record {
        listed = rw w.add_moves_of.ensures.moves (append_assoc c.loop-man.list.items (legal_from g man.at) rest ∙ whole);
        few =
            let one = one_of_side c.to_move-side.result men i man man lt c.man-item.is (side ∙ w.if-eq.true) in
            omega (arith, w.add_moves_of.ensures.few, c.loop-man.invariant.few, one);
      }
      | else-eq w ↦ rw w.list-is record {
        listed =
            let here = man_here g men i man man c.men-men.ensures.valid c.men-men.ensures.value lt c.man-item.is in
            let other : same_side man.side g.board.to_move ≡ false = ap (λ (s : Side). same_side man.side s) (sym c.to_move-side.ensures) ∙ (side
            ∙ w.if-eq.false) in
            ap (λ (l : List Move). c.loop-man.list.items ++ (l ++ rest)) (sym (none_of_other g man c.men-men.ensures.valid here other)) ∙ whole;
        few = let less = fewer_of_side c.to_move-side.result men i man lt in omega (arith, c.loop-man.invariant.few, less);
      }
    ]

all_listed : (g : Wide) (men : List Man) (i : ℕ) (list : List Move) → length men ≤ i
    → list ++ flat_map (λ (m : Man). legal_from g m.at) (drop i men) ≡ wide_legal_list g → list ≡ wide_legal_list g
all_listed g men i list end e =
    sym (append-nil list) ∙ (ap (λ (xs : List Man). list ++ flat_map (λ (m : Man). legal_from g m.at) xs) (sym (drop_all i men end)) ∙ e)

pub returns-clause-listed : goal.returns-clause-listed
returns-clause-listed c =
    all_listed c.args.p.now c.men-men.result.now c.loop-man.man-index c.loop-man.list.items c.loop-man-test.false c.loop-man.invariant.listed

pub returns-clause-legal : goal.returns-clause-legal
returns-clause-legal c =
    let listed = all_listed c.args.p.now c.men-men.result.now c.loop-man.man-index c.loop-man.list.items c.loop-man-test.false c.loop-man.invariant.listed in
    rw listed (λ m. wide_list_exact c.args.p.now m c.men-men.ensures.valid)
