use Rattle.std.proofs.Common.{ℕ, List, Option, refl, subst}
use Rattle.study_script.specs.Stores.{HonestOn, GivesBytes}
use Rattle.study_script.proofs.HeldTables.{store_same}
use Rattle.study_script.proofs.ClassReplies.{reader_tells, given_bytes, file_refusal, memory_words}
use Rattle.study_script.proofs.table_commands.read_table_file.Goals as goal

pub returns-in-Ok-read_table-clause-read : goal.returns-in-Ok-read_table-clause-read
returns-in-Ok-read_table-clause-read g c = λ honest.
    let known = g.S.TableStore.files c.args.store.now c.args.class in
    let reported = g.S.Reader.Read.remaining c.in-Ok.reader in
    let tells = reader_tells reported (c.in-Ok.ensures.right honest) in
    let bytes = tells.0 in
    let read = c.in-Ok-read_table.ensures.ok bytes tells.1 in (
      bytes,
      given_bytes known bytes
          (subst (λ (o : Option (List ℕ)). GivesBytes known o) tells.1 c.in-Ok.ensures.given),
      read,
      tells.2 c.in-Ok-read_table.table read,
    )

pub returns-in-Err-OutOfMemory-clause-refused : goal.returns-in-Err-OutOfMemory-clause-refused
returns-in-Err-OutOfMemory-clause-refused g c = λ honest.
    file_refusal (g.S.TableStore.files c.args.store.now c.args.class) (g.S.Reader.Read.remaining c.in-Ok.reader)
    c.in-Err-OutOfMemory.field-0 _ (c.in-Ok.ensures.right honest) c.in-Ok.ensures.given
    c.in-Err-OutOfMemory.ensures.fault (memory_words c.in-Err-OutOfMemory.field-0 c.in-Err-OutOfMemory.field-0-is)

pub returns : goal.returns
returns g c = record {
  read = λ honest. tt;
  refused = λ honest. file_refusal (g.S.TableStore.files c.args.store.now c.args.class)
      (g.S.Reader.Read.remaining c.in-Ok.reader) c.in-Err-read_table.fault _ (c.in-Ok.ensures.right honest)
      c.in-Ok.ensures.given c.in-Err-read_table.ensures.fault refl;
  store = λ trusted s seen. store_same (HonestOn trusted g.S.TableStore.honest) g.S.TableStore.files g.S.TableStore.headers g.S.TableStore.faults
      c.args.store.now
      c.reader.new.self s (λ b all k is. c.reader.ensures.stays b k (all k is)) c.reader.ensures.files c.reader.ensures.headers c.reader.ensures.faults seen;
}
