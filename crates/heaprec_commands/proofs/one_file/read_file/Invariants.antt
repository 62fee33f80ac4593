use Rattle.heaprec_commands.proofs.one_file.read_file.Given as goal

-- what was read before is what is handed in
abbrev pub ghosts-read_behind : goal.ghosts-read_behind
ghosts-read_behind g a = record { kind = a.file.now.kind; job = a.scripts }
