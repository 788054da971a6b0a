use Rattle.std.proofs.Common.{arith}
use Rattle.cipher_profile.proofs.Layouts.{IsListed-laid_out}
use Rattle.cipher_profile.proofs.profile.Profile.usable.Goals as goal

pub overflow_sub-result : goal.overflow_sub-result
overflow_sub-result c = let laid_out = IsListed-laid_out c.args.self.now c.requires in omega (arith, laid_out.whole)

pub returns-clause-laid_out : goal.returns-clause-laid_out
returns-clause-laid_out c = IsListed-laid_out c.args.self.now c.requires
