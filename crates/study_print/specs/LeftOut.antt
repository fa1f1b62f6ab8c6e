-- Why a game was left out, in words.
use Rattle.std.specs.Prelude.{ℕ, List, [], ◌++◌, if◌then◌else◌, codes}
use Rattle.study_html.specs.Escape.{escaped_text}
use Rattle.study_reply.specs.Reasons.{reason_of}
use Rattle.study_report.specs.Remarks.{begins}

-- ---- by the name with which a remark begins

-- of a fault among the moves; the other names are those of refused lines
unfoldable pub moves_reason : List ℕ → List ℕ
moves_reason why =
    if begins why (codes "TagInMoves") then codes "a tag among the moves"
    else (if begins why (codes "Numbering") then codes "a move number that does not fit"
    else (if begins why (codes "NullMove") then codes "a null move in the main line"
    else (if begins why (codes "BehindWord") then codes "a move right behind a word, which may be a part of it"
    else (if begins why (codes "BehindResult") then codes "moves behind the result"
    else (if begins why (codes "Byte") then codes "a letter that begins no move"
    else (if begins why (codes "OpenComment") then codes "a comment that is not closed"
    else (if begins why (codes "NoMoveBefore") then codes "a variation before the first move"
    else (if begins why (codes "NotOpened") then codes "a ) without its ("
    else (if begins why (codes "OpenVariation") then codes "a ( without its )"
    else (if begins why (codes "TooNested") then codes "more than 256 variations within one another"
    else reason_of why))))))))))

-- of a fault of the header, or of the whole game
unfoldable pub game_reason : List ℕ → List ℕ
game_reason why =
    if begins why (codes "GameTooLarge") then codes "more than 1,048,576 bytes"
    else (if begins why (codes "TagForm") then codes "a tag that is not a name and a text in quotation marks"
    else (if begins why (codes "OpenString") then codes "a tag whose text is not closed in its line"
    else (if begins why (codes "NoStipulation") then codes "it does not say what is to be done"
    else (if begins why (codes "StipulationUnread") then codes "a stipulation that is not understood"
    else (if begins why (codes "TagTwice") then codes "a second tag of this name, so perhaps two games that run together"
    else moves_reason why)))))

-- ---- the words

-- `: no legal move of this position`, after `NoSuchMove at Kb6`; the words `left out: 7 men` are their own reason
abbrev pub explanation : List ℕ → List ℕ
explanation why = if begins why (codes "left out: ") then [] else escaped_text (codes ": ") ++ escaped_text (game_reason why)
