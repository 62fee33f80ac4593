-- One turn more: what the table then keeps, and which fault the turn has.
use Rattle.std.proofs.Common.{◌≡◌, ℕ, ◌+◌, ◌<◌, ◌≤◌, Bool, true, false, cond, List, [], ◌∷◌, ◌++◌, length, map, reverse}
use Rattle.std.proofs.Common.{Some, refl, sym, ap, ◌∙◌, subst, arith, length-append}
use Rattle.std.specs.Prelude.{nat_eq, not}
use Rattle.std.specs.List.{AllByRecursion}
use Rattle.std.proofs.lemmas.List.{length-map, map-append}
use Rattle.std.proofs.lemmas.Bool.Decides.{nat_tests}
use Rattle.stack_table.specs.Node.{Node}
use Rattle.stack_table.specs.Continues.{Continues}
use Rattle.record_scripts.specs.declared.script.Script.{Script}
use Rattle.record_scripts.specs.declared.turn_entry.TurnEntry.{TurnEntry}
use Rattle.record_scripts.specs.Turns.{AreBounded, IsBounded, Turn, allocates, frees, reallocates, is_live}
use Rattle.record_scripts.specs.Turns.{is_live_after}
use Rattle.record_scripts.specs.Events.{event_count, events_of_turn}
use Rattle.record_scripts.specs.Job.{Job, in_last, last_script}
use Rattle.record_scripts.specs.Playable.{Follows, IsInTurn}
use Rattle.record_scripts.specs.ScriptFaults.{with_turn}
use Rattle.record_scripts.specs.ScriptNodes.{nodes_in, nodes_with}
use Rattle.record_scripts.specs.ScriptTurns.{AreHeld, AreScripts, AreSingle, IsHeld, script_kept, scripts_kept}
use Rattle.record_scripts.specs.ScriptTurns.{turn_kept}
use Rattle.record_scripts.proofs.KeptLemmas.{all-push, kept-grown}
use Rattle.record_scripts.proofs.ScriptNodeLemmas.{nodes-begun, nodes-push}
use Rattle.record_scripts.proofs.TableLemmas.{bounded-push, count-begun, count-push, in-turn-push, last-begun}
use Rattle.record_scripts.proofs.TableLemmas.{last-push, live-push}

-- the scripts with the turn
pub kept-next : (nodes new : List Node) (scripts reserved pushed : List Script) (turn : TurnEntry) (said : Turn)
    → Continues nodes new → AreHeld (length nodes) scripts
    → scripts_kept new reserved ≡ scripts_kept new scripts
    → scripts_kept new pushed ≡ in_last (scripts_kept new reserved) (turn_kept new turn) → turn_kept new turn ≡ said
    → scripts_kept new pushed ≡ in_last (scripts_kept nodes scripts) said
kept-next nodes new scripts reserved pushed turn said grown held same grew says =
    grew
    ∙ ap (λ (kept : List (List Turn)). in_last kept (turn_kept new turn))
    (same ∙ kept-grown nodes new grown scripts held)
    ∙ ap (λ (t : Turn). in_last (scripts_kept nodes scripts) t) says

-- the same scripts, kept elsewhere
pub scripts-same : (nodes : List Node) (scripts others : List Script) (live later : ℕ → Bool) (events limit : ℕ)
    → AreScripts nodes scripts live events limit
    → scripts_kept nodes others ≡ scripts_kept nodes scripts → AreHeld (length nodes) others
    → length others ≡ length scripts → ((id : ℕ) → later id ≡ live id)
    → AreScripts nodes others later events limit
scripts-same nodes scripts others live later events limit table kept held count same = record {
  held = held;
  single = table.single;
  few_nodes = table.few_nodes;
  nodes_are = table.nodes_are ∙ ap nodes_in (sym kept);
  counted = table.counted ∙ ap event_count (sym kept);
  within = table.within;
  few_events = table.few_events;
  few_scripts = omega (arith, count, table.few_scripts);
  bounded = subst AreBounded (sym kept) table.bounded;
  in_turn = subst (AllByRecursion IsInTurn) (sym kept) table.in_turn;
  live_blocks =
      λ id. same id ∙ table.live_blocks id ∙ ap (λ (all : List (List Turn)). is_live (last_script all) id) (sym kept);
}

-- an empty script more
pub scripts-begun : (nodes : List Node) (scripts : List Script) (empty : Script) (live later : ℕ → Bool)
    (events limit : ℕ)
    → AreScripts nodes scripts live events limit
    → length (scripts_kept nodes scripts) < 64 → empty.turns.items ≡ [] → ((id : ℕ) → later id ≡ false)
    → AreScripts nodes (scripts ++ empty ∷ []) later events limit
scripts-begun nodes scripts empty live later events limit table few none gone =
    let kept : scripts_kept nodes (scripts ++ empty ∷ []) ≡ scripts_kept nodes scripts ++ [] ∷ [] =
    map-append (script_kept nodes) scripts (empty ∷ [])
    ∙ ap (λ (items : List TurnEntry). scripts_kept nodes scripts ++ map (turn_kept nodes) items ∷ []) none in
    record {
      held =
          all-push (λ (script : Script). AllByRecursion (IsHeld (length nodes)) script.turns.items) scripts empty
          table.held (subst (λ (items : List TurnEntry). AllByRecursion (IsHeld (length nodes)) items) (sym none) tt);
      single = table.single;
      few_nodes = table.few_nodes;
      nodes_are = table.nodes_are ∙ sym (nodes-begun (scripts_kept nodes scripts)) ∙ ap nodes_in (sym kept);
      counted = table.counted ∙ sym (count-begun (scripts_kept nodes scripts)) ∙ ap event_count (sym kept);
      within = table.within;
      few_events = table.few_events;
      few_scripts = omega (arith, few, length-map scripts (script_kept nodes), length-append scripts (empty ∷ []));
      bounded =
          subst AreBounded (sym kept)
          (all-push (λ (script : List Turn). AllByRecursion IsBounded script) (scripts_kept nodes scripts) []
          table.bounded tt);
      in_turn =
          subst (AllByRecursion IsInTurn) (sym kept)
          (all-push IsInTurn (scripts_kept nodes scripts) [] table.in_turn tt);
      live_blocks =
          λ id. gone id
          ∙ ap (λ (turns : List Turn). is_live turns id)
          (sym (last-begun (scripts_kept nodes scripts)) ∙ ap last_script (sym kept));
    }

-- an ID that is taken in and out again
pub live-undone : (old mid new : ℕ → Bool) (id : ℕ) → ((q : ℕ) → mid q ≡ cond (nat_eq id q) true (old q))
    → ((q : ℕ) → new q ≡ cond (nat_eq id q) false (mid q)) → old id ≡ false
    → (q : ℕ) → new q ≡ old q
live-undone old mid new id put out none q = by (nat_eq id q) refl
  where
    by : (b : Bool) → nat_eq id q ≡ b → new q ≡ old q
    by true same =
        let e : id ≡ q = grind (arith, nat_tests, same) in
        out q ∙ ap (λ (b : Bool). cond b false (mid q)) same ∙ sym none ∙ ap old e
    by false other =
        out q ∙ ap (λ (b : Bool). cond b false (mid q)) other ∙ put q ∙ ap (λ (b : Bool). cond b true (old q)) other

some_events : (turn : Turn) → 1 ≤ length (events_of_turn turn)
some_events (allocates id size ips) = omega arith
some_events (frees id) = omega arith
some_events (reallocates id size ips) = omega arith

-- what the table keeps with the turn
pub scripts-next : (nodes new : List Node) (scripts pushed : List Script) (live later : ℕ → Bool) (events limit : ℕ)
    (said : Turn)
    → AreScripts nodes scripts live events limit
    → 0 < length (scripts_kept nodes scripts) → length pushed ≡ length scripts → AreHeld (length new) pushed
    → AreSingle (reverse new) → length new ≤ length nodes + 256
    → new ≡ nodes_with nodes said → scripts_kept new pushed ≡ in_last (scripts_kept nodes scripts) said
    → events + length (events_of_turn said) ≤ limit
    → ((id : ℕ) → later id ≡ is_live_after (said ∷ reverse (last_script (scripts_kept nodes scripts))) id)
    → IsBounded said
    → Follows (reverse (last_script (scripts_kept nodes scripts))) said
    → AreScripts new pushed later (events + length (events_of_turn said)) limit
scripts-next nodes new scripts pushed live later events limit said table some count held single few grew kept within
    live_then bound follows =
    record {
      held = held;
      single = single;
      few_nodes = omega (arith, few, table.few_nodes, some_events said);
      nodes_are = grew ∙ ap (λ (ns : List Node). nodes_with ns said) table.nodes_are
          ∙ sym (nodes-push (scripts_kept nodes scripts) said some) ∙ ap nodes_in (sym kept);
      counted =
          ap (λ (n : ℕ). n + length (events_of_turn said)) table.counted
          ∙ sym (count-push (scripts_kept nodes scripts) said some) ∙ ap event_count (sym kept);
      within = within;
      few_events = table.few_events;
      few_scripts = omega (arith, count, table.few_scripts);
      bounded = subst AreBounded (sym kept) (bounded-push (scripts_kept nodes scripts) said table.bounded bound);
      in_turn =
          subst (AllByRecursion IsInTurn) (sym kept)
          (in-turn-push (scripts_kept nodes scripts) said table.in_turn follows);
      live_blocks = λ id.
          live_then id ∙ sym (live-push (last_script (scripts_kept nodes scripts)) said id)
          ∙ ap (λ (turns : List Turn). is_live turns id)
          (sym (last-push (scripts_kept nodes scripts) said some) ∙ ap last_script (sym kept));
    }

-- an ID that is live already
pub live-kept : (live old : ℕ → Bool) (id : ℕ) → ((q : ℕ) → live q ≡ old q) → live id ≡ true → (q : ℕ)
    → live q ≡ cond (nat_eq id q) true (old q)
live-kept live old id same is q = by (nat_eq id q) refl
  where
    by : (b : Bool) → nat_eq id q ≡ b → live q ≡ cond b true (old q)
    by true here =
        let e : id ≡ q = grind (arith, nat_tests, here) in
        ap live (sym e) ∙ is
    by false other = same q

pub not-true : (b : Bool) → not b ≡ true → b ≡ false
not-true true is = sym is
not-true false is = refl

pub not-false : (b : Bool) → not b ≡ false → b ≡ true
not-false true is = refl
not-false false is = sym is

-- an ID that wasn't live
pub live-absent : (live later : ℕ → Bool) (id : ℕ) → ((q : ℕ) → later q ≡ cond (nat_eq id q) false (live q))
    → live id ≡ false → (q : ℕ) → later q ≡ live q
live-absent live later id out none q = out q ∙ by (nat_eq id q) refl
  where
    by : (b : Bool) → nat_eq id q ≡ b → cond b false (live q) ≡ live q
    by true here =
        let e : id ≡ q = grind (arith, nat_tests, here) in
        sym none ∙ ap live e
    by false other = refl

-- an ID that is put in where it was live
pub live-there : (live later : ℕ → Bool) (id : ℕ) → ((q : ℕ) → later q ≡ cond (nat_eq id q) true (live q))
    → live id ≡ true → (q : ℕ) → later q ≡ live q
live-there live later id put is q = put q ∙ sym (live-kept live live id (λ q. refl) is q)

-- what contracts see
abbrev pub made : ℕ → List ℕ → List (List Turn) → Job
made limit modules scripts = record { limit = limit; modules = modules; scripts = scripts }

pub view-next : (limit : ℕ) (modules : List ℕ) (old new : List (List Turn)) (job : Job) (said : Turn)
    → new ≡ in_last old said → made limit modules old ≡ job
    → made limit modules new ≡ with_turn job (Some said)
view-next limit modules old new job said grew is =
    ap (λ (scripts : List (List Turn)). made limit modules scripts) grew ∙ ap (λ (j : Job). with_turn j (Some said)) is
