-- The lines of a summary, which spell nothing.
use Rattle.std.proofs.Common.{◌≡◌, ℕ, List, [], ◌∷◌, ◌++◌, refl, append_assoc}
use Rattle.std.specs.Prelude.{codes, decimal}
use Rattle.hp_outside.specs.WholeLines.{IsLineText, text_of_lines}
use Rattle.record_scripts.specs.Turns.{Turn}
use Rattle.record_book.specs.declared.summary.Summary.{Summary}
use Rattle.record_book.specs.SummaryText.{count_lines, leaked_line, peak_line, rec_summary, summary_of}
use Rattle.record_book.specs.Spelled.{AreQuiet, IsQuiet, named}
use Rattle.record_book.proofs.LineTexts.{both-text, digits-text, literal-text}

number : (n : ℕ) → IsLineText (decimal n)
number n = digits-text 10 n

threads-line : (n : ℕ) → IsQuiet (codes "# threads: " ++ decimal n)
unfolding named
threads-line n =
    record {
      text = both-text (codes "# threads: ") (decimal n) (literal-text (codes "# threads: ") refl) (number n);
      no_event = refl;
      no_thread = refl;
    }

events-line : (n : ℕ) → IsQuiet (codes "# events: " ++ decimal n)
unfolding named
events-line n =
    record {
      text = both-text (codes "# events: ") (decimal n) (literal-text (codes "# events: ") refl) (number n);
      no_event = refl;
      no_thread = refl;
    }

calls-line : (n : ℕ) → IsQuiet (codes "# calls: " ++ decimal n)
unfolding named
calls-line n =
    record {
      text = both-text (codes "# calls: ") (decimal n) (literal-text (codes "# calls: ") refl) (number n);
      no_event = refl;
      no_thread = refl;
    }

allocated-line : (n : ℕ) → IsQuiet (codes "# allocated: " ++ decimal n)
unfolding named
allocated-line n =
    record {
      text = both-text (codes "# allocated: ") (decimal n) (literal-text (codes "# allocated: ") refl)
          (number n);
      no_event = refl;
      no_thread = refl;
    }

leaked-line : (n m : ℕ)
    → IsQuiet (codes "# leaked: " ++ (decimal n ++ (codes " in " ++ (decimal m ++ codes " blocks"))))
unfolding named
leaked-line n m = record {
  text = both-text (codes "# leaked: ") _ (literal-text (codes "# leaked: ") refl)
      (both-text (decimal n) _ (number n)
      (both-text (codes " in ") _ (literal-text (codes " in ") refl)
      (both-text (decimal m) (codes " blocks") (number m) (literal-text (codes " blocks") refl))));
  no_event = refl;
  no_thread = refl;
}

peak-line : (n m k : ℕ)
    → IsQuiet (codes "# peak: " ++ (decimal n ++ (codes " from " ++ (decimal m ++ (codes " to " ++ decimal k)))))
unfolding named
peak-line n m k = record {
  text = both-text (codes "# peak: ") _ (literal-text (codes "# peak: ") refl)
      (both-text (decimal n) _ (number n)
      (both-text (codes " from ") _ (literal-text (codes " from ") refl) (both-text (decimal m) _ (number m)
      (both-text (codes " to ") (decimal k) (literal-text (codes " to ") refl) (number k)))));
  no_event = refl;
  no_thread = refl;
}

regrouped : (z t n e m c o a p l q i r b k s f u x v : List ℕ)
    → ((t ++ n) ++ (((z ++ e) ++ m) ++ (((z ++ c) ++ o) ++ ((z ++ a) ++ p))))
    ++ ((((z ++ l) ++ q) ++ ((i ++ r) ++ (b ++ z))) ++ ((k ++ s) ++ ((f ++ u) ++ ((x ++ v) ++ z))))
    ≡ (t ++ n)
    ++ (z
    ++ ((e ++ m)
    ++ (z
    ++ ((c ++ o)
    ++ (z
    ++ ((a ++ p) ++ (z ++ ((l ++ (q ++ (i ++ (r ++ b)))) ++ (z ++ ((k ++ (s ++ (f ++ (u ++ (x ++ v))))) ++ z))))))))))
regrouped z t n e m c o a p l q i r b k s f u x v = simp append_assoc

-- its lines
abbrev pub summary_lines : Summary → List (List ℕ)
summary_lines s =
    (codes "# threads: " ++ decimal s.threads) ∷ (codes "# events: " ++ decimal s.events)
    ∷ (codes "# calls: " ++ decimal s.calls) ∷ (codes "# allocated: " ++ decimal s.allocated)
    ∷ (codes "# leaked: " ++ (decimal s.leaked ++ (codes " in " ++ (decimal s.blocks ++ codes " blocks"))))
    ∷ (codes "# peak: " ++ (decimal s.peak ++ (codes " from " ++ (decimal s.low ++ (codes " to " ++ decimal s.high)))))
    ∷ []

text-lines : (s : Summary) → count_lines s ++ (leaked_line s ++ peak_line s) ≡ text_of_lines (summary_lines s)
unfolding count_lines leaked_line peak_line
text-lines s =
    regrouped (10 ∷ []) (codes "# threads: ") (decimal s.threads) (codes "# events: ") (decimal s.events)
    (codes "# calls: ") (decimal s.calls) (codes "# allocated: ") (decimal s.allocated)
    (codes "# leaked: ") (decimal s.leaked) (codes " in ") (decimal s.blocks) (codes " blocks") (codes "# peak: ")
    (decimal s.peak) (codes " from ") (decimal s.low) (codes " to ") (decimal s.high)

pub summary-text : (scripts : List (List Turn)) (order : List ℕ)
    → rec_summary scripts order ≡ text_of_lines (summary_lines (summary_of scripts order))
unfolding rec_summary
summary-text scripts order = text-lines (summary_of scripts order)

pub summary-quiet : (scripts : List (List Turn)) (order : List ℕ) → AreQuiet (rec_summary scripts order)
unfolding rec_summary
summary-quiet scripts order =
    let s = summary_of scripts order in (
      summary_lines s,
      (
        threads-line s.threads,
        (
          events-line s.events,
          (
            calls-line s.calls,
            (allocated-line s.allocated, (leaked-line s.leaked s.blocks, (peak-line s.peak s.low s.high, tt))),
          ),
        ),
      ),
      text-lines s,
    )
