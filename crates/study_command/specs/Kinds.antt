-- What the commands of a script are for.
use Rattle.study_command.specs.declared.command.Keyword.{Keyword}
use Rattle.study_command.specs.declared.command.Keyword.TheVariants.{FromFen, Query, Node, Table, Stipulate, Insert, Tag, Solve, Pgn}
use Rattle.study_command.specs.declared.command.CommandKind.{CommandKind}
use Rattle.study_command.specs.declared.command.CommandKind.TheVariants as kind
use Rattle.study_command.specs.declared.command.NodeCommand.TheVariants.{Delete, Promote, Mark}

-- what a command is for
abbrev pub kind_of : Keyword → CommandKind
kind_of (FromFen word) = kind.Edit
kind_of (Query word) = kind.Question
kind_of (Node Delete) = kind.Edit
kind_of (Node Promote) = kind.Edit
kind_of (Node Mark) = kind.Question
kind_of (Table word) = kind.Table
kind_of Stipulate = kind.Edit
kind_of Insert = kind.Edit
kind_of Tag = kind.Edit
kind_of Solve = kind.Question
kind_of Pgn = kind.Question
