-- How studies stand as entries, and their names: a study is not read if edits of it were refused or its game was read only up to a fault; else it may be a
-- try. Its names in their own letters are those of the remarks above its position.
use Rattle.std.specs.Prelude.{ℕ, Bool, true, false, not, ◌&&◌, List, [], ◌∷◌, take, Option, Some, None, if◌then◌else◌, codes}
use Rattle.study_text.specs.Words.{words}
use Rattle.study_command.specs.declared.command.Keyword.{Keyword}
use Rattle.study_command.specs.declared.command.Keyword.TheVariants.{Pgn}
use Rattle.study_command.specs.declared.command.CommandKind.{CommandKind}
use Rattle.study_command.specs.declared.command.CommandKind.TheVariants.{Edit, Question, Table}
use Rattle.study_command.specs.Parser.{word_of}
use Rattle.study_command.specs.Kinds.{kind_of}
use Rattle.study_script.specs.Replies.{begins_position}
use Rattle.study_entry.specs.declared.entry.Names.{Names}
use Rattle.study_entry.specs.declared.entry.Origin.{Origin}
use Rattle.study_entry.specs.declared.entry.Standing.{Standing}
use Rattle.study_entry.specs.declared.entry.Standing.TheVariants as standing
use Rattle.study_entry.specs.declared.entry.Standing.TheVariants.{BesideSolution}
use Rattle.study_entry.specs.Entry.{whole}
use Rattle.study_remark.specs.declared.remark.Original.{Original}
use Rattle.study_remark.specs.declared.remark.Original.TheVariants as original
use Rattle.study_remark.specs.Remarks.{Told, original_of}
use Rattle.study_remark.specs.Reading.{remark_in}
use Rattle.study_report.specs.Remarks.{begins, is_tail}
use Rattle.study_report.specs.declared.unread_line.Unread.{Unread}
use Rattle.study_report.specs.declared.line_outcome.LineOutcome.{LineOutcome}
use Rattle.study_report.specs.declared.line_outcome.LineOutcome.TheVariants.{Nothing, Study as AStudy, LeftOut, NotRead, Try, Refusal as ARefusal}

abbrev pub is_of_edit : CommandKind → Bool
is_of_edit Edit = true
is_of_edit Question = false
is_of_edit Table = false

-- the word of an edit; one that begins no command was meant as one
abbrev pub edits : Option Keyword → Bool
edits None = true
edits (Some word) = is_of_edit (kind_of word)

abbrev pub begins_edit : List (List ℕ) → Bool
begins_edit [] = false
begins_edit (first ∷ more) = edits (word_of first)

-- a line that gives something to a study, or was meant to
unfoldable pub is_edit : List ℕ → Bool
is_edit line = begins_edit (words line)

abbrev pub is_pgn_word : Option Keyword → Bool
is_pgn_word (Some Pgn) = true
is_pgn_word _ = false

abbrev pub begins_pgn : List (List ℕ) → Bool
begins_pgn [] = false
begins_pgn (first ∷ more) = is_pgn_word (word_of first)

-- the first word is `pgn`
unfoldable pub is_pgn : List ℕ → Bool
is_pgn line = begins_pgn (words line)

-- the first line for which a study is not read; that is said of a try, too
abbrev pub first_of : Standing → ℕ → Standing
first_of (standing.NotRead first) number = standing.NotRead first
first_of other number = standing.NotRead number

-- what is not read is no try
abbrev pub or_try : Standing → Standing
or_try (standing.NotRead first) = standing.NotRead first
or_try other = BesideSolution

abbrev pub not_read_from : Origin → ℕ → Origin
not_read_from x number = record { standing = first_of x.standing number; names = x.names }

-- ---- the names

-- with the original of a tag that a page shows, at most 255 bytes of it
abbrev pub with_original : Names → Original → List ℕ → Names
with_original names original.Event text = record names { event = take 255 text }
with_original names original.Site text = record names { site = take 255 text }
with_original names original.Date text = record names { date = take 255 text }
with_original names original.Round text = record names { round = take 255 text }
with_original names original.White text = record names { white = take 255 text }
with_original names original.Black text = names

abbrev pub with_told : Names → Option Told → Names
with_told names (Some (original_of name text)) = with_original names name text
with_told names _ = names

-- a tail of a game that has one before
abbrev pub is_later_tail : List ℕ → Bool
is_later_tail line = is_tail line && not (begins line (codes "#! tail 1 of "))

-- The names of the next study after a line: with those of a remark. A later tail has the names of the tail before.
abbrev pub names_ahead : Unread → List ℕ → Names
names_ahead old line = if is_later_tail line then old.own.names else with_told old.ahead.names (remark_in line)

-- ---- line by line

abbrev pub none_unread : Unread
none_unread = record { own = whole; ahead = whole; reported = false }

-- An edit that is refused after its study was reported may belong to the next study; a refused `pgn` ends a study that has no position.
unfoldable pub unread_refused : Unread → ℕ → List ℕ → Unread
unread_refused old number line =
    if is_pgn line then record { own = old.own; ahead = whole; reported = old.reported }
    else (if is_edit line
    then record {
      own = not_read_from old.own number;
      ahead = if old.reported then not_read_from old.ahead number else old.ahead;
      reported = old.reported;
    }
    else old)

-- an accepted `position` begins another study; another line may be a remark on the next one
abbrev pub unread_accepted : Unread → List ℕ → Unread
unread_accepted old line =
    if begins_position line then record { own = old.ahead; ahead = whole; reported = false }
    else record { own = old.own; ahead = record { standing = old.ahead.standing; names = names_ahead old line }; reported = old.reported }

abbrev pub unread_try : Unread → List ℕ → Unread
unread_try old line =
    record { own = old.own; ahead = record { standing = or_try old.ahead.standing; names = names_ahead old line }; reported = old.reported }

-- The same after a line of this number: an accepted `position` begins another study, to which the refused edits after the last report belong. The remark
-- of a game that was read only up to a fault, or of a try, and the original of a tag belong to the study of the next accepted `position`.
abbrev pub unread_after : Unread → ℕ → List ℕ → LineOutcome → Unread
unread_after old number line Nothing = unread_accepted old line
unread_after old number line AStudy = record { own = old.own; ahead = whole; reported = true }
unread_after old number line LeftOut = old
unread_after old number line NotRead = record { own = old.own; ahead = not_read_from old.ahead number; reported = old.reported }
unread_after old number line Try = unread_try old line
unread_after old number line ARefusal = unread_refused old number line
