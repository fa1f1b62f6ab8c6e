-- The names of refusals, and how an answer ended, in words.
use Rattle.std.specs.Prelude.{◌≡◌, ℕ, List, [], ◌++◌, codes, decimal, Result, Ok, Err}
use Rattle.study_material.specs.Class.{name_of}
use Rattle.study_reply.specs.Names.{words_of}
use Rattle.study_script.specs.declared.running.Summary.{Summary}
use Rattle.study_script.specs.declared.running.RunFault.{RunFault}
use Rattle.study_script.specs.declared.running.RunFault.TheVariants.{ReadDevice, WriteDevice, LineTooLong, TooManyLines, OutOfMemory}
use Rattle.study_listing.specs.declared.filter_words.Unread.{Unread}
use Rattle.study_listing.specs.declared.filter_words.Unread.TheVariants as unread
use Rattle.study_web.specs.declared.request_fault.RequestFault.{RequestFault}
use Rattle.study_web.specs.declared.request_fault.RequestFault.TheVariants as denial
use Rattle.study_web.specs.declared.reply.AnswerFault.{AnswerFault}
use Rattle.study_web.specs.declared.reply.AnswerFault.TheVariants as no_text
use Rattle.study_web.specs.declared.reply.Ending.{Ending}
use Rattle.study_web.specs.declared.reply.Ending.TheVariants.{Answered, Refused, Ran, Stopped}

-- a line
abbrev pub line_of : List ℕ → List ℕ
line_of words = words ++ codes "\n"

-- why a request to find is not valid
abbrev pub unread_text : Unread → List ℕ
unread_text unread.NoSuchTheme = codes "NoSuchTheme\n"
unread_text unread.NoSuchFilter = codes "NoSuchFilter\n"
unread_text unread.NoKeyMove = codes "NoKeyMove\n"

-- `NoSuchNode`, `MissingTable KQK`, `KRK HeaderDamaged`
abbrev pub denial_text : RequestFault → List ℕ
denial_text (denial.Refused refusal) = line_of (words_of refusal)
denial_text (denial.OfFile c refusal) = name_of c ++ (codes " " ++ line_of (words_of refusal))
denial_text denial.NoMan = codes "NoMan\n"
denial_text (denial.Unread fault) = unread_text fault

-- how a run over a script ended
abbrev pub ending_of : Result Summary RunFault → Ending
ending_of (Ok summary) = Ran summary
ending_of (Err fault) = Stopped fault

abbrev pub stop_text : RunFault → List ℕ
stop_text ReadDevice = codes "stopped ReadDevice\n"
stop_text WriteDevice = codes "stopped WriteDevice\n"
stop_text (LineTooLong n) = codes "stopped LineTooLong " ++ line_of (decimal n)
stop_text TooManyLines = codes "stopped TooManyLines\n"
stop_text OutOfMemory = codes "stopped OutOfMemory\n"

-- `answered`, `refused`, `ran 6 0`, `stopped LineTooLong 3`
abbrev pub ending_text : Ending → List ℕ
ending_text Answered = codes "answered\n"
ending_text (Refused d) = codes "refused\n"
ending_text (Ran summary) = codes "ran " ++ (decimal summary.lines ++ (codes " " ++ line_of (decimal summary.refused)))
ending_text (Stopped fault) = stop_text fault

-- the request is refused by its name, or there is no memory for that
abbrev pub IsDenied : RequestFault → List ℕ → Ending → Type 0
IsDenied d text (Refused e) = (e ≡ d) × (text ≡ denial_text d)
IsDenied d text (Stopped fault) = (fault ≡ OutOfMemory) × (text ≡ [])
IsDenied d text Answered = ⊥
IsDenied d text (Ran summary) = ⊥

-- there is no text: the request is refused, or its script was not read to the end
abbrev pub IsAnswerFault : AnswerFault → List ℕ → Ending → Type 0
IsAnswerFault (no_text.Denied d) text ended = IsDenied d text ended
IsAnswerFault (no_text.Stopped fault) text ended = (ended ≡ Stopped fault) × (text ≡ [])
