-- Moves as numbers, which a `Model` over moves must have beside its view. No contract uses them.
use Rattle.std.specs.Prelude.{◌≡◌, ℕ, Option, refl, zero, suc}
use Rattle.std.specs.Coded.{Coded, code_by, coded×, coded_ℕ, coded_option}
use Rattle.study_board.specs.declared.men.Kind.{Kind}
use Rattle.study_board.specs.declared.men.Kind.TheVariants.{King, Queen, Rook, Bishop, Knight, Pawn}
use Rattle.study_moves.specs.declared.moves.Move.{Move}

abbrev pub kind_number : Kind → ℕ
kind_number King = 0
kind_number Queen = 1
kind_number Rook = 2
kind_number Bishop = 3
kind_number Knight = 4
kind_number Pawn = 5

abbrev pub kind_of_number : ℕ → Kind
kind_of_number zero = King
kind_of_number (suc zero) = Queen
kind_of_number (suc (suc zero)) = Rook
kind_of_number (suc (suc (suc zero))) = Bishop
kind_of_number (suc (suc (suc (suc zero)))) = Knight
kind_of_number (suc (suc (suc (suc (suc n))))) = Pawn

pub kind_of_number-kind_number : (k : Kind) → kind_of_number (kind_number k) ≡ k
kind_of_number-kind_number King = refl
kind_of_number-kind_number Queen = refl
kind_of_number-kind_number Rook = refl
kind_of_number-kind_number Bishop = refl
kind_of_number-kind_number Knight = refl
kind_of_number-kind_number Pawn = refl

abbrev pub move_code : Coded Move
move_code =
    code_by (ℕ × (ℕ × Option Kind)) (coded× coded_ℕ (coded× coded_ℕ (coded_option (code_by ℕ coded_ℕ kind_number kind_of_number kind_of_number-kind_number))))
    (λ m. (m.origin, (m.target, m.promoted))) (λ p. record { origin = p.0; target = p.1.0; promoted = p.1.1 }) (λ _. refl)
