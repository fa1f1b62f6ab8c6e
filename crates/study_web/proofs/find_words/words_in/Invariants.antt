use Rattle.std.proofs.Common.{◌≡◌, ◌-◌, ◌++◌, map}
use Rattle.arrayvec.specs.ArrayVec.{array_vec_len}
use Rattle.study_text.specs.Words.{words}
use Rattle.study_web.proofs.find_words.words_in.Given as goal

abbrev pub invariant-loop-rest : goal.invariant-loop-rest
invariant-loop-rest l = map (λ word. word.now) l.list.items ++ words l.rest ≡ words l.text

abbrev pub decreases-loop-rest : goal.decreases-loop-rest
decreases-loop-rest l = 16 - array_vec_len l.list
