-- The words after a theme.
use Rattle.std.specs.Prelude.{ℕ, ◌+◌, ◌*◌, ◌-◌, ◌==◌, ◌&&◌, nat_le, Bool, true, List, [], ◌∷◌, Option, Some, None, is_some, Result, Ok, Err, codes}
use Rattle.std.specs.Prelude.{if◌then◌else◌}
use Rattle.std.specs.Option.{option_map}
use Rattle.std.specs.Str.{bytes_eq}
use Rattle.study_board.specs.declared.men.Kind.{Kind}
use Rattle.study_board.specs.declared.men.Kind.TheVariants.{King, Queen, Rook, Bishop, Knight, Pawn}
use Rattle.study_board.specs.declared.men.Side.{Side}
use Rattle.study_board.specs.declared.men.Side.TheVariants.{White, Black}
use Rattle.study_board.specs.Geometry.{file_of, rank_of}
use Rattle.study_command.specs.Parser.{side_parsed}
use Rattle.study_search.specs.declared.only_moves.Outcome.{Outcome}
use Rattle.study_search.specs.declared.only_moves.Outcome.TheVariants.{Win, Draw}
use Rattle.study_search.specs.declared.themes.Theme.{Theme}
use Rattle.study_listing.specs.declared.features.Feature.{Feature}
use Rattle.study_listing.specs.declared.features.Feature.TheVariants.{Underpromotion, Offer, Zugzwang, Stalemate}
use Rattle.study_listing.specs.declared.filters.Placed.{Placed}
use Rattle.study_listing.specs.declared.filter_words.Behind.{Behind}
use Rattle.study_listing.specs.declared.filter_words.Unread.{Unread}
use Rattle.study_listing.specs.declared.filter_words.Unread.TheVariants.{NoSuchFilter, NoKeyMove}
use Rattle.study_listing.specs.Facts.{has_key}
use Rattle.study_listing.specs.Filters.{no_filters}

-- ---- `Kf7`, `pa2-h4`

-- White's men have capital letters
abbrev pub is_small : ℕ → Bool
is_small letter = nat_le 97 letter

abbrev pub side_lettered : ℕ → Side
side_lettered letter = if is_small letter then Black else White

abbrev pub capital : ℕ → ℕ
capital letter = if is_small letter then letter - 32 else letter

-- K Q R B N P
abbrev pub kind_lettered : ℕ → Option Kind
kind_lettered letter =
    if letter == 75 then Some King
    else (if letter == 81 then Some Queen
    else (if letter == 82 then Some Rook
    else (if letter == 66 then Some Bishop
    else (if letter == 78 then Some Knight
    else (if letter == 80 then Some Pawn
    else None)))))

-- a file and a rank
abbrev pub square_spelled : ℕ → ℕ → Option ℕ
square_spelled file rank =
    if nat_le 97 file && nat_le file 104 && (nat_le 49 rank && nat_le rank 56) then Some (8 * (rank - 49) + (file - 97)) else None

-- the lower left and the upper right square of a rectangle
abbrev pub are_corners : ℕ → ℕ → Bool
are_corners from to = nat_le (file_of from) (file_of to) && nat_le (rank_of from) (rank_of to)

abbrev pub placed_on : Side → Option Kind → Option ℕ → Option ℕ → Option Placed
placed_on side (Some kind) (Some from) (Some to) =
    if are_corners from to then Some (record { side = side; kind = kind; from = from; to = to }) else None
placed_on side _ _ _ = None

abbrev pub placed_by : ℕ → Option ℕ → Option ℕ → Option Placed
placed_by letter from to = placed_on (side_lettered letter) (kind_lettered (capital letter)) from to

-- a man's letter and a square, or the two corners of a rectangle with a hyphen between them
abbrev pub placed_parsed : List ℕ → Option Placed
placed_parsed (letter ∷ file ∷ rank ∷ []) = placed_by letter (square_spelled file rank) (square_spelled file rank)
placed_parsed (letter ∷ file ∷ rank ∷ hyphen ∷ last_file ∷ last_rank ∷ []) =
    if hyphen == 45 then placed_by letter (square_spelled file rank) (square_spelled last_file last_rank) else None
placed_parsed _ = None

-- ---- the words after a theme

abbrev pub nothing_behind : Behind
nothing_behind = record { side = None; filters = no_filters }

-- one more, if there is room for it
abbrev pub put : {A : Type 0} → A → List (Option A) → Option (List (Option A))
put w [] = None
put w (None ∷ ws) = Some (Some w ∷ ws)
put w (Some v ∷ ws) = option_map (λ more. Some v ∷ more) (put w ws)

abbrev pub with_men : Behind → Option (List (Option Placed)) → Result Behind Unread
with_men b None = Err NoSuchFilter
with_men b (Some men) = Ok (record b { filters = record b.filters { men = men } })

abbrev pub with_placed : Behind → Option Placed → Result Behind Unread
with_placed b None = Err NoSuchFilter
with_placed b (Some w) = with_men b (put w b.filters.men)

-- one side at most
abbrev pub with_side : Behind → Side → Result Behind Unread
with_side b side = if is_some b.side then Err NoSuchFilter else Ok (record b { side = Some side })

abbrev pub with_side_or_man : Behind → List ℕ → Option Side → Result Behind Unread
with_side_or_man b word (Some side) = with_side b side
with_side_or_man b word None = with_placed b (placed_parsed word)

-- a filter on the key, the result that it keeps, or the row that it begins, needs a theme that has one
abbrev pub if_key : Theme → Behind → Result Behind Unread
if_key t b = if has_key t then Ok b else Err NoKeyMove

-- `=Q`, `=R`, `=B`, `=N`
abbrev pub promoted_parsed : List ℕ → Option Kind
promoted_parsed word =
    if bytes_eq word (codes "=Q") then Some Queen
    else (if bytes_eq word (codes "=R") then Some Rook
    else (if bytes_eq word (codes "=B") then Some Bishop
    else (if bytes_eq word (codes "=N") then Some Knight
    else None)))

-- `wins`, `draws`
abbrev pub result_parsed : List ℕ → Option Outcome
result_parsed word = if bytes_eq word (codes "wins") then Some Win else (if bytes_eq word (codes "draws") then Some Draw else None)

-- one result at most
abbrev pub with_result : Theme → Behind → List ℕ → Option Outcome → Result Behind Unread
with_result t b word None = with_side_or_man b word (side_parsed word)
with_result t b word (Some o) =
    if is_some b.filters.result then Err NoSuchFilter else if_key t (record b { filters = record b.filters { result = Some o } })

-- one promoted man at most
abbrev pub with_promoted : Theme → Behind → List ℕ → Option Kind → Result Behind Unread
with_promoted t b word None = with_result t b word (result_parsed word)
with_promoted t b word (Some kind) =
    if is_some b.filters.promoted then Err NoSuchFilter else if_key t (record b { filters = record b.filters { promoted = Some kind } })

-- `row-underpromotion`, `row-offer`, `row-zugzwang`, `row-stalemate`
abbrev pub feature_parsed : List ℕ → Option Feature
feature_parsed word =
    if bytes_eq word (codes "row-underpromotion") then Some Underpromotion
    else (if bytes_eq word (codes "row-offer") then Some Offer
    else (if bytes_eq word (codes "row-zugzwang") then Some Zugzwang
    else (if bytes_eq word (codes "row-stalemate") then Some Stalemate
    else None)))

abbrev pub with_row : Theme → Behind → Option (List (Option Feature)) → Result Behind Unread
with_row t b None = Err NoSuchFilter
with_row t b (Some row) = if_key t (record b { filters = record b.filters { row = row } })

-- four features at most
abbrev pub with_feature : Theme → Behind → List ℕ → Option Feature → Result Behind Unread
with_feature t b word None = with_promoted t b word (promoted_parsed word)
with_feature t b word (Some f) = with_row t b (put f b.filters.row)

-- `no-capture`, `no-check`, `families`, `as-white`, `row-offer`, `=N`, `wins`, `draws`, `white`, `black`, or the square of a man
abbrev pub with_word : Theme → Behind → List ℕ → Result Behind Unread
with_word t b word =
    if bytes_eq word (codes "no-capture") then if_key t (record b { filters = record b.filters { no_capture = true } })
    else (if bytes_eq word (codes "no-check") then if_key t (record b { filters = record b.filters { no_check = true } })
    else (if bytes_eq word (codes "families") then if_key t (record b { filters = record b.filters { families = true } })
    else (if bytes_eq word (codes "as-white") then Ok (record b { filters = record b.filters { as_white = true } })
    else with_feature t b word (feature_parsed word))))

-- word by word, up to the first that is refused
abbrev pub with_words : Theme → Result Behind Unread → List (List ℕ) → Result Behind Unread
with_words t read [] = read
with_words t (Ok b) (word ∷ more) = with_words t (with_word t b word) more
with_words t (Err fault) (word ∷ more) = Err fault
