-- Bytes begin with the line of an event: a kind, a blank, one to eight digits and a line feed.
use Rattle.std.specs.Prelude.{◌≡◌, ◌≢◌, ℕ, ◌+◌, ◌^◌, ◌<◌, ◌≤◌, List, ◌∷◌, ◌++◌, length, drop, All, Ok}
use Rattle.ht_lines.specs.declared.event.EventKind.{EventKind}
use Rattle.ht_lines.specs.declared.event.EventKind.TheVariants.{Allocation, Free}
use Rattle.ht_lines.specs.declared.event.EventLine.{EventLine}
use Rattle.ht_lines.specs.declared.item.Form.TheVariants.{Interpreted}
use Rattle.ht_lines.specs.Content.{Content, allocation_line, free_line}
use Rattle.ht_lines.specs.Reading.{reading}

-- the first byte of the line of an event
abbrev pub event_byte : EventKind → ℕ
event_byte Allocation = 43
event_byte Free = 45

-- what the line of an event says
abbrev pub event_content : EventKind → ℕ → Content
event_content Allocation info = allocation_line info
event_content Free info = free_line info

-- the text begins with such a line and its line feed, and in an interpreted trace of each version it says the event
pub record BeginsWithEvent (text : List ℕ) (event : EventLine) : Type 0 where
  pub line : List ℕ
  pub rest : List ℕ
  pub split : text ≡ line ++ (10 ∷ rest)
  pub after : rest ≡ drop event.bytes text
  pub counted : event.bytes ≡ length line + 1
  pub at_least : 3 ≤ length line
  pub at_most : length line ≤ 10
  pub one_line : All (λ b. b ≢ 10) line
  pub small : event.info < 2 ^ 32
  pub said : (version : ℕ)
      → reading Interpreted version line ≡ Ok (event_content event.kind event.info)
