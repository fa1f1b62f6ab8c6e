-- The outcomes of the commands of a class, in the words of a reply.
use Rattle.std.specs.Prelude.{◌+◌, ◌*◌, ℕ, true, false, List, ◌++◌, Result, Ok, Err, codes}
use Rattle.study_material.specs.Class.{name_of}
use Rattle.study_values.specs.Size.{pages_of}
use Rattle.study_reply.specs.declared.table_reply.TableReply.{TableReply}
use Rattle.study_reply.specs.declared.table_reply.TableReply.TheVariants.{Built, Loaded, Saved, Verified}
use Rattle.study_reply.specs.declared.refusal.Refusal.{Refusal}
use Rattle.study_reply.specs.Names.{words_of}
use Rattle.study_reply.specs.Words.{reply_line, built_text, loaded_text, saved_text, verified_text}

-- the reply to a successful command
abbrev pub table_text : TableReply → List ℕ
table_text (Built c win) = built_text c win
table_text (Loaded c) = loaded_text c
table_text (Saved c) = saved_text c (64 + 4128 * pages_of c)
table_text (Verified c true) = verified_text c
table_text (Verified c false) = codes "verified " ++ name_of c ++ codes " no\n"

-- the reply to a successful or a refused command
abbrev pub decided_text : Result TableReply Refusal → List ℕ
decided_text (Ok reported) = table_text reported
decided_text (Err refusal) = reply_line (codes "error ") (words_of refusal)
