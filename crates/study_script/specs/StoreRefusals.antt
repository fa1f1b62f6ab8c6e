-- The refusals of a source of pages and of a store.
use Rattle.study_prober.specs.declared.fault.PagedFault.{PagedFault}
use Rattle.study_prober.specs.declared.fault.PagedFault.TheVariants as paged
use Rattle.study_reply.specs.declared.refusal.Refusal.{Refusal}
use Rattle.study_reply.specs.declared.refusal.Refusal.TheVariants.{OutOfMemory, AlreadyHeld, OtherClass, NoFile, Device, File, TableRead}
use Rattle.study_script.specs.declared.store.StoreFault.{StoreFault}
use Rattle.study_script.specs.declared.store.StoreFault.TheVariants as store

abbrev pub refusal_of_paged : PagedFault → Refusal
refusal_of_paged (paged.AlreadyHeld c) = AlreadyHeld c
refusal_of_paged (paged.TableRead fault) = TableRead fault
refusal_of_paged (paged.Header fault) = File fault
refusal_of_paged (paged.OtherClass c) = OtherClass c
refusal_of_paged paged.OutOfMemory = OutOfMemory

abbrev pub refusal_of_store : StoreFault → Refusal
refusal_of_store store.NoFile = NoFile
refusal_of_store store.Device = Device
