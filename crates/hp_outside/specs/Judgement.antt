-- What bytes tell of the next line, for private clauses.
use Rattle.std.specs.Prelude.{◌≡◌, ◌<◌, ◌≤◌, ℕ, List, length}
use Rattle.std.specs.List.{position_or_len}
use Rattle.hp_outside.specs.Lines.{is_line_feed}
use Rattle.hp_outside.specs.declared.line_end.Judgement.{Judgement}
use Rattle.hp_outside.specs.declared.line_end.Judgement.TheVariants.{Line, TooLong, Open}
use Rattle.hp_outside.specs.declared.span.LineFault.TheVariants.{ReadFailed, LineTooLong, InputTooLong}

-- what bytes tell of the next line, where a line may have so many bytes and the file so many more
abbrev pub IsJudgement : ℕ → ℕ → List ℕ → Judgement → Type 0
IsJudgement line room kept (Line count) =
    (position_or_len is_line_feed kept ≡ count) × (count < length kept) × (count ≤ line)
    × (count < room)
IsJudgement line room kept (TooLong LineTooLong) =
    (line < position_or_len is_line_feed kept) × (line < room)
IsJudgement line room kept (TooLong InputTooLong) =
    (room < length kept) × (room ≤ position_or_len is_line_feed kept)
    × (line < room → position_or_len is_line_feed kept ≤ line)
IsJudgement line room kept (TooLong ReadFailed) = ⊥
IsJudgement line room kept Open =
    (position_or_len is_line_feed kept ≡ length kept) × (length kept ≤ line) × (length kept ≤ room)
