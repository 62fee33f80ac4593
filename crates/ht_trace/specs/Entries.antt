-- How the tables are kept, for private clauses.
use Rattle.live_ledger.specs.LedgerState.{HeldInfo}
use Rattle.ht_trace.specs.declared.infos.InfoEntry.{InfoEntry}

-- the info of an entry
abbrev pub held_info : InfoEntry → HeldInfo
held_info entry = record { stack = entry.stack; size = entry.size }
