-- The places so far are in the list.
use Rattle.std.proofs.Common.{◌≡◌, take}
use Rattle.dhat_trace.proofs.profile.frame_list.Given as goal

abbrev pub invariant-each_place : goal.invariant-each_place
invariant-each_place l = l.list ≡ take l.place-index l.places
