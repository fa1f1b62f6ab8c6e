-- A report in lines of plain text.
use Rattle.std.specs.Prelude.{ℕ, List, [], ◌++◌, drop, codes, decimal, if◌then◌else◌}
use Rattle.study_entry.specs.declared.entry.EntryInfo.{EntryInfo}
use Rattle.study_marks.specs.Edits.{PlainStudy}
use Rattle.study_review.specs.Review.{BeginsReview, IsReviewOf}
use Rattle.study_report.specs.Remarks.{is_not_read}

-- `refused 7 NoTable KRK`: the number of the line, and the script's reply without `error `
abbrev pub refusal_line : ℕ → List ℕ → List ℕ
refusal_line number reply = codes "refused " ++ (decimal number ++ (codes " " ++ drop 6 reply))

-- a review has the facts of what was read: a refused line has its own line before it
abbrev pub IsReviewAs : PlainStudy → EntryInfo → List ℕ → Type 0
IsReviewAs plain info text = IsReviewOf plain info.number text

-- each review begins with the number of its study, so no review is a refusal
abbrev pub IsReviewForm : PlainStudy → EntryInfo → List ℕ → Type 0
IsReviewForm plain info text = BeginsReview info.number text

-- no remark is shown
abbrev pub no_remark : ℕ → List ℕ → List ℕ
no_remark number line = []

-- `unread game 3, line 45, column 12: not read: NoSuchMove at Kb6`
abbrev pub unread_line : List ℕ → List ℕ
unread_line line = codes "unread " ++ (drop 3 line ++ codes "\n")

-- before a review that a game was read only up to a fault; no other remark
abbrev pub review_remark : ℕ → List ℕ → List ℕ
review_remark number line = if is_not_read line then unread_line line else []
