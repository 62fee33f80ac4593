-- A run that ended because a file is absent, or couldn't be opened or read: what its message says.
use Rattle.std.proofs.Common.{◌≡◌, ◌≢◌, ℕ, suc, ◌+◌, true, false, List, ◌∷◌, Option, Some, None, IsSome, ap, subst, ◌∙◌}
use Rattle.std.proofs.Common.{inl, inr, arith}
use Rattle.hp_outside.specs.Faults.{Faulted}
use Rattle.hp_outside.specs.FaultTexts.{line_text, open_text}
use Rattle.hp_outside.specs.declared.span.LineFault.TheVariants as reading
use Rattle.hp_outside.specs.declared.store.OpenFault.TheVariants as opening
use Rattle.hp_outside.specs.Folder.{Folder, file_of}
use Rattle.hp_outside.specs.Taken.{WhereTold}
use Rattle.command_frame.specs.Texts.{Texts, at_file}
use Rattle.command_frame.specs.Answer.{Answer}
use Rattle.command_frame.specs.Moment.{Moment, Opened}
use Rattle.command_frame.specs.RunFacts.{NotRead}

module _ (texts : Texts) (files : Option Folder) (name wanted : List ℕ) (names : List (List ℕ)) (before now : Moment)
    (given : Answer) where
  -- the first file is absent
  pub absent_not_read : name ≡ wanted → given.message ≡ at_file texts wanted (open_text opening.Absent)
      → Opened before now false
      → WhereTold files (λ folder. file_of folder wanted ≡ None) → (files ≡ None → Faulted before.faults now.faults)
      → NotRead texts files (name ∷ names) before now given
  absent_not_read named message opened absent rose = record {
    place = 0;
    name = wanted;
    named = ap Some named;
    opens = omega (arith, opened.opens);
    cannot_read = λ current. let closed = opened.current_is in absurd (cc);
    no_such_file = λ folder known none. message;
    cannot_open =
        λ folder known some closed. let there : IsSome {T = List ℕ} None = subst IsSome (absent folder known)
        some in absurd (cc);
    untold = λ untold closed. inl message;
    cause_told =
        λ folder known some. let there : IsSome {T = List ℕ} None = subst IsSome (absent folder known) some in absurd
        (cc);
    cause_untold = λ untold. rose untold;
  }

  -- it couldn't be opened
  pub closed_not_read : name ≡ wanted → given.message ≡ at_file texts wanted (open_text opening.Failed)
      → Opened before now false
      → WhereTold files (λ folder. file_of folder wanted ≢ None) → Faulted before.faults now.faults
      → NotRead texts files (name ∷ names) before now given
  closed_not_read named message opened there rose = record {
    place = 0;
    name = wanted;
    named = ap Some named;
    opens = omega (arith, opened.opens);
    cannot_read = λ current. let closed = opened.current_is in absurd (cc);
    no_such_file = λ folder known none. absurd (there folder known none);
    cannot_open = λ folder known some closed. message;
    untold = λ untold closed. inr message;
    cause_told = λ folder known some. rose;
    cause_untold = λ untold. rose;
  }

  -- it couldn't be read
  pub unread_not_read : name ≡ wanted → given.message ≡ at_file texts wanted (line_text reading.ReadFailed)
      → Opened before now true
      → WhereTold files (λ folder. file_of folder wanted ≢ None) → Faulted before.faults now.faults
      → NotRead texts files (name ∷ names) before now given
  unread_not_read named message opened there rose = record {
    place = 0;
    name = wanted;
    named = ap Some named;
    opens = omega (arith, opened.opens);
    cannot_read = λ current. message;
    no_such_file = λ folder known none. absurd (there folder known none);
    cannot_open = λ folder known some closed. let current = opened.current_is in absurd (cc);
    untold = λ untold closed. let current = opened.current_is in absurd (cc);
    cause_told = λ folder known some. rose;
    cause_untold = λ untold. rose;
  }

-- a later file
pub not_read_behind : (texts : Texts) (files : Option Folder) (name : List ℕ) (names : List (List ℕ))
    (before mid now : Moment) (given answer : Answer)
    → NotRead texts files names mid now answer
    → mid.opens ≡ before.opens + 1 → mid.faults ≡ before.faults → given.message ≡ answer.message
    → NotRead texts files (name ∷ names) before now given
not_read_behind texts files name names before mid now given answer behind opens faults message = record {
  place = suc behind.place;
  name = behind.name;
  named = behind.named;
  opens = omega (arith, behind.opens, opens);
  cannot_read = λ current. message ∙ behind.cannot_read current;
  no_such_file = λ folder known none. message ∙ behind.no_such_file folder known none;
  cannot_open = λ folder known some closed. message ∙ behind.cannot_open folder known some closed;
  untold =
      λ untold closed. elim (behind.untold untold closed)
      [ inl absent ↦ inl (message ∙ absent) | inr failed ↦ inr (message ∙ failed) ];
  cause_told = λ folder known some. subst (λ n. Faulted n now.faults) faults (behind.cause_told folder known some);
  cause_untold = λ untold. subst (λ n. Faulted n now.faults) faults (behind.cause_untold untold);
}
