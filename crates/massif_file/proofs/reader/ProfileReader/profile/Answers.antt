-- The profile that is lent is the one that would be given at the end.
use Rattle.std.proofs.Common.{◌≡◌, ◌+◌, length, Ok, Err, subst}
use Rattle.std.specs.Prelude.{IfOk, IfErr}
use Rattle.massif_file.specs.declared.fault.ProfileFault.TheVariants as faults
use Rattle.massif_file.specs.IsProfile.{is_profile}
use Rattle.massif_file.specs.IsWritable.{IsWritable}
use Rattle.massif_file.specs.ProfileFault.{profile_fault}
use Rattle.massif_file.specs.ProfileOf.{profile_of}
use Rattle.massif_file.specs.Progress.{Progress, end_of}
use Rattle.massif_file.proofs.Lent.{owned, owned_is, lent_ok, lent_err, lent_is}
use Rattle.massif_file.proofs.Profiles.{end_is, end_only, end_writable, end_truncated, end_first}
use Rattle.massif_file.proofs.ReadingLemmas.{end_profile, end_fault}
use Rattle.massif_file.proofs.reader.ProfileReader.profile.Goals as goal

pub returns : goal.returns
returns c =
    let exact =
    subst (λ (p : Progress). IfOk c.whole.result (λ lent. end_of p ≡ Ok lent.now)) c.self.view_is
    c.whole.ensures.profile in
    let refused =
    subst (λ (p : Progress). IfErr c.whole.result (λ fault. end_of p ≡ Err fault)) c.self.view_is
    c.whole.ensures.fault in
    let given = owned_is c.args.self.now c.whole.result exact refused in
    let one = owned c.whole.result in
    record {
      exact = exact;
      refused = refused;
      read = λ lines s. lent_ok (λ profile. is_profile lines profile) c.whole.result
          (end_is c.args.self.now one given lines s);
      only = λ lines profile s is. lent_is c.whole.result profile
          (end_only c.args.self.now one given lines profile s is);
      writable = λ lines s all. lent_ok IsWritable c.whole.result
          (end_writable c.args.self.now one given lines s all);
      truncated = λ lines s. lent_err (λ fault. fault ≡ faults.Truncated) c.whole.result
          (end_truncated c.args.self.now one given lines s);
      first_fault = λ lines s. lent_err (λ fault. profile_fault lines (length lines + 1) fault) c.whole.result
          (end_first c.args.self.now one given lines s);
      profile = λ lines s. lent_ok (λ profile. profile_of lines ≡ Ok profile) c.whole.result
          (end_profile c.args.self.now one given lines s);
      fault = λ lines s. lent_err (λ fault. profile_of lines ≡ Err (length lines + 1, fault)) c.whole.result
          (end_fault c.args.self.now one given lines s);
    }
