use native.Mathlib.Omega.{arith}
use Prim.Native.Nat.{◌-◌}
use Rattle.answers.specs.declared.refusal.Refusal.TheVariants.{BadWriter}
use Rattle.feeder.proofs.Facts.{in-open, in-refused, in-chunk, told, passed_is}
use Rattle.feeder.proofs.end.end_of.Goals as goal

pub overflow_sub-r : goal.overflow_sub-r
overflow_sub-r c = (in-chunk c.args.r c.requires c.in-Header.is).head.come

pub chunk_end-requires : goal.chunk_end-requires
chunk_end-requires c = let r = c.args.r in passed_is c.in-Header.data (r.total - r.count) (in-chunk c.args.r c.requires c.in-Header.is).passed

pub overflow_sub-r-in-OpenData : goal.overflow_sub-r-in-OpenData
overflow_sub-r-in-OpenData c = (in-open c.args.r c.requires c.in-OpenData.is).past

pub info_at-info-requires : goal.info_at-info-requires
info_at-info-requires c = let a = in-open c.args.r c.requires c.in-OpenData.is in let m = a.met.within in omega (arith, m)

pub returns-in-Refused : goal.returns-in-Refused
returns-in-Refused c = rw (c.in-Refused.is, c.new-in-Refused.ensures, c.unwrap_or-refusal.ensures, c.refusal_of.ensures, told c.in-Refused.number BadWriter (in-refused c.args.r c.requires c.in-Refused.is))
