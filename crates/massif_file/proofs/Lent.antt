-- A profile that is lent says what an owned one says.
use Rattle.std.proofs.Common.{◌≡◌, Result, Ok, Err, sym}
use Rattle.std.specs.Borrow.{Bor}
use Rattle.std.specs.Prelude.{IfOk, IfErr, IsOkAnd}
use Rattle.massif_file.specs.declared.fault.ProfileFault.{ProfileFault}
use Rattle.massif_file.specs.declared.profile.Profile.{Profile}
use Rattle.massif_file.specs.Progress.{Progress, end_of}

-- the profile behind the reference, or the fault
abbrev pub owned : Result (Bor Profile) ProfileFault → Result Profile ProfileFault
owned (Ok lent) = Ok lent.now
owned (Err fault) = Err fault

pub owned_is : (reader : Progress) (r : Result (Bor Profile) ProfileFault)
    → IfOk r (λ lent. end_of reader ≡ Ok lent.now) → IfErr r (λ fault. end_of reader ≡ Err fault)
    → owned r ≡ end_of reader
owned_is reader (Ok lent) profile fault = sym profile
owned_is reader (Err f) profile fault = sym fault

pub lent_ok : (P : Profile → Type 0) (r : Result (Bor Profile) ProfileFault) → IfOk (owned r) P
    → IfOk r (λ lent. P lent.now)
lent_ok P (Ok lent) h = h
lent_ok P (Err fault) h = tt

pub lent_err : (P : ProfileFault → Type 0) (r : Result (Bor Profile) ProfileFault) → IfErr (owned r) P → IfErr r P
lent_err P (Ok lent) h = tt
lent_err P (Err fault) h = h

pub lent_is : (r : Result (Bor Profile) ProfileFault) (profile : Profile) → owned r ≡ Ok profile
    → IsOkAnd r (λ lent. lent.now ≡ profile)
lent_is (Ok lent) profile e = cc
lent_is (Err fault) profile e = absurd cc
