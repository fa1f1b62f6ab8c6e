-- The path of a node that moved up.
use Rattle.std.proofs.Common.{◌≡◌, ℕ, ◌-◌, List, [], ◌∷◌, ◌++◌, length, refl, sym, ap, ◌∙◌}
use Rattle.std.proofs.lemmas.List.{nil_from_length}
use Rattle.study_text.specs.Paths.{path_text}
use Rattle.study_reply.specs.Words.{path_after_move_up}

-- a path whose last place is one less
path_after_move_up-last : (front : List ℕ) (last : ℕ) → path_after_move_up (front ++ last ∷ []) ≡ front ++ (last - 1) ∷ []
path_after_move_up-last [] last = refl
path_after_move_up-last (k ∷ []) last = refl
path_after_move_up-last (k ∷ j ∷ js) last = ap (λ (t : List ℕ). k ∷ t) (path_after_move_up-last (j ∷ js) last)

pub raised_none : (ks : List ℕ) → length ks ≡ 0 → path_text (path_after_move_up ks) ≡ path_text ks
raised_none ks e = ap (λ (l : List ℕ). path_text (path_after_move_up l)) (nil_from_length ks e) ∙ ap path_text (sym (nil_from_length ks e))

pub raised_some : (ks front : List ℕ) (last : ℕ) → ks ≡ front ++ last ∷ [] → path_text (path_after_move_up ks) ≡ path_text (front ++ (last - 1) ∷ [])
raised_some ks front last e = ap (λ (l : List ℕ). path_text (path_after_move_up l)) e ∙ ap path_text (path_after_move_up-last front last)
