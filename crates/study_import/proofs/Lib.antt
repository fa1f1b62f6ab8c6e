pub mod Spelt
pub mod Claims
pub mod Moved
pub mod Played
pub mod Counted
pub mod Ended
mod Apart
pub mod Made
pub mod Printed
pub mod TextAgain
pub mod TagTexts
pub mod TagsTaken
mod Alike
mod FewLegal
mod Ink
mod Spelling
mod PathAgain
mod Narrow
mod CommandLines
mod Remarks
mod AimsCounted
mod Kept
mod Openings
mod TagsTrimmed
mod Soundness
mod GamesRead
mod Placed
mod Whole
pub mod Numbers
pub mod TailFound
mod AllRead
mod Blanks
mod TreeHoles
mod SanSymbols
mod ReadSteps
mod TreeRead
mod Singles
mod OpeningRead
mod HeaderRead
mod RoundTrip
mod PlainText
mod CutOut
mod Stipulated
pub mod StoppedBlock
mod ReadKept
mod WideGathered
mod WideSound
mod TailRead
mod WidePaths
mod WideTexts
mod WideLines
mod TailBlocks
mod WideReads
pub mod WideReading
pub mod WideSpelt
mod WideFew
mod WideRebuilt
mod WideReadBack
