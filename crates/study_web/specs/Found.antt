-- Why a search is refused.
use Rattle.study_listing.specs.declared.fault.Stop.{Stop}
use Rattle.study_listing.specs.declared.fault.Stop.TheVariants as stop
use Rattle.study_reply.specs.declared.refusal.Refusal.TheVariants.{OutOfMemory}
use Rattle.study_reply.specs.Names.{of_probe}
use Rattle.study_web.specs.declared.request_fault.RequestFault.{RequestFault}
use Rattle.study_web.specs.declared.request_fault.RequestFault.TheVariants as denial

-- why a search fails; writing into memory fails only for want of it
abbrev pub of_stop : Stop → RequestFault
of_stop (stop.Values fault) = denial.Refused (of_probe fault)
of_stop stop.TooManyStudies = denial.Refused OutOfMemory
of_stop stop.WriteDevice = denial.Refused OutOfMemory
