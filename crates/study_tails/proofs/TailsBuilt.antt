-- The study of a tail is built by its lines.
use Rattle.std.proofs.Common.{◌≡◌, ℕ, zero, suc, ◌≤◌, List, [], ◌∷◌, Some, Ok, sym, subst, ◌∙◌, arith}
use Rattle.study_board.specs.Position.{Position, IsValid}
use Rattle.study_moves.specs.Rules.{after}
use Rattle.study_tree.specs.Forest.{none, more, nodes_in}
use Rattle.study_tree.specs.Edits.{IsWithin}
use Rattle.study_tree.specs.Tree.{size_of}
use Rattle.study_marks.specs.Study.{IsPlayable, AreDistinct}
use Rattle.study_marks.specs.Edits.{PlainStudy}
use Rattle.study_wide.specs.Wide.{Wide}
use Rattle.study_wide.specs.Rules.{widen}
use Rattle.study_wide.proofs.FewMen.{few_agree, small_widened}
use Rattle.study_wide_text.specs.declared.start.WideStart.{WideStart}
use Rattle.study_wide_text.specs.StartAfter.{wide_start_after}
use Rattle.study_tails.specs.Study.{Moves, WideStudy, Node, node_from, IsWidePlayable, IsWideStudy}
use Rattle.study_tails.specs.Tails.{tail, study_from}
use Rattle.study_tails.specs.Insertions.{IsPlain, IsBuilt}
use Rattle.study_tails.proofs.TailStudies.{tail_of}
use Rattle.study_tails.proofs.Built.{built}

-- by the rules for four men
playable_plain : (p : Position) (f : Moves) → IsWidePlayable (widen p) f → IsPlayable p f
playable_plain p none h = tt
playable_plain p (more m l b r) h = (
  sym ((few_agree p).legal m) ∙ h.0,
  playable_plain (after p m) b (subst (λ (g : Wide). IsWidePlayable g b) ((few_agree p).after m) h.1),
  playable_plain p r h.2,
)

deeper : (d : ℕ) (f : Moves) → IsWithin d f → IsWithin (suc d) f
deeper d none h = tt
deeper zero (more m l b r) h = absurd h
deeper (suc d) (more m l b r) h = (deeper d b h.0, deeper (suc d) r h.1)

-- what holds below a node
pub record IsPartOf (d size : ℕ) (n : Node) : Type 0 where
  pub playable : IsWidePlayable n.start.position n.below
  pub distinct : AreDistinct n.below
  pub shallow : IsWithin d n.below
  pub few : nodes_in n.below ≤ size

larger : (d size more_size : ℕ) (n : Node) → size ≤ more_size → IsPartOf d size n → IsPartOf d more_size n
larger d size more_size n h i =
    record { playable = i.playable; distinct = i.distinct; shallow = i.shallow; few = omega (arith, h, i.few) }

part_of : (d : ℕ) (s : WideStart) (f : Moves) (path : List ℕ) (n : Node) → node_from s f path ≡ Some n → IsWidePlayable s.position f → AreDistinct f
    → IsWithin d f → IsPartOf d (nodes_in f) n
unfolding wide_start_after
part_of d s f [] n e playable distinct shallow =
    let same : record { start = s; below = f } ≡ n = cc in
    subst (λ (u : Node). IsPartOf d (nodes_in f) u) same
    (record { playable = playable; distinct = distinct; shallow = shallow; few = omega arith })
part_of d s none (k ∷ ks) n e playable distinct shallow = let no : ⊥ = cc in absurd no
part_of zero s (more m l b r) (zero ∷ ks) n e playable distinct shallow = absurd shallow
part_of (suc d) s (more m l b r) (zero ∷ ks) n e playable distinct shallow =
    larger (suc d) (nodes_in b) (nodes_in (more m l b r)) n (omega arith)
    (part_of (suc d) (wide_start_after s m) b ks n e playable.1 distinct.1 (deeper d b shallow.0))
part_of zero s (more m l b r) (suc k ∷ ks) n e playable distinct shallow = absurd shallow
part_of (suc d) s (more m l b r) (suc k ∷ ks) n e playable distinct shallow =
    larger (suc d) (nodes_in r) (nodes_in (more m l b r)) n (omega arith) (part_of (suc d) s r (k ∷ ks) n e playable.2 distinct.2 shallow.1)

pub tail_plain : (s : WideStudy) (path : List ℕ) (u : PlainStudy) → IsWideStudy s → IsWithin 256 s.tree.below → size_of s.tree ≤ 4096
    → tail s path ≡ Ok u → IsValid u.start.position → IsPlain u
tail_plain s path u h shallow few e valid =
    let t = tail_of s path u e in
    let n = t.node in
    let i = part_of 256 s.start s.tree.below path n t.found h.playable h.distinct shallow in
    let plain : IsPlain (study_from s n t.goal) = record {
      valid = subst (λ (v : PlainStudy). IsValid v.start.position) t.study valid;
      playable =
          playable_plain n.start.position.board n.below
          (subst (λ (g : Wide). IsWidePlayable g n.below) (small_widened n.start.position t.small) i.playable);
      distinct = i.distinct;
      shallow = i.shallow;
      few = omega (arith, i.few, few);
    } in
    subst (λ (v : PlainStudy). IsPlain v) (sym t.study) plain

pub tails_built : (A : Type 0) (s : WideStudy) (path : List ℕ) (u : PlainStudy) → IsWideStudy s → IsWithin 256 s.tree.below → size_of s.tree ≤ 4096
    → tail s path ≡ Ok u → IsValid u.start.position → IsBuilt A u
tails_built A s path u h shallow few e valid = built A u (tail_plain s path u h shallow few e valid)
