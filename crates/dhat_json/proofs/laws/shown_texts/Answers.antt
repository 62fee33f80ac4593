use Rattle.dhat_json.proofs.ShownTexts.{shown_above, no_line_feed, shown_again}
use Rattle.dhat_json.proofs.laws.shown_texts.Goals as goal

pub returns-clause-printable : goal.returns-clause-printable
returns-clause-printable c = shown_above

pub returns-clause-no_line_feed : goal.returns-clause-no_line_feed
returns-clause-no_line_feed c = no_line_feed

pub returns-clause-again : goal.returns-clause-again
returns-clause-again c = shown_again
