-- Nodes that stand for numbered stacks: one more, and no more.
use Rattle.std.proofs.Common.{◌≡◌, ◌≢◌, ℕ, zero, suc, ◌+◌, ◌-◌, ◌<◌, ◌≤◌, ◌==◌, Bool, true, false, cond, ◌⊎◌, inl, inr}
use Rattle.std.proofs.Common.{List, [], ◌∷◌, ◌++◌, length, get_or, Option, None, Some, refl, sym, ap, ap₂, ◌∙◌, subst}
use Rattle.std.proofs.Common.{arith, true≢false, append_assoc, append-nil, length-append}
use Rattle.std.specs.Prelude.{slice_get}
use Rattle.std.specs.List.{position_or_len}
use Rattle.std.specs.Str.{bytes_eq}
use Rattle.std.proofs.lemmas.Bool.{cases_lt}
use Rattle.std.proofs.lemmas.Bool.Decides.{nat_tests}
use Rattle.std.proofs.lemmas.List.Sums.{fails_before_first}
use Rattle.std.proofs.lemmas.Option.{slice_get-get_or, slice_get_within, get_or_from_slice_get}
use Rattle.std.proofs.lemmas.Slice.Eq.{bytes_eq-Decides}
use Rattle.ht_lines.specs.Content.{node_line}
use Rattle.stack_table.specs.AreNodes.{AreNodes}
use Rattle.stack_table.specs.Continues.{Continues}
use Rattle.stack_table.specs.Interned.{Interned, node_interned, of_number}
use Rattle.stack_table.specs.Node.{Node, node_at}
use Rattle.stack_table.specs.NodeNumber.{is_call, node_number}
use Rattle.stack_table.specs.Stack.{frame_count, stack}
use Rattle.record_book.specs.NodeNumbers.{number_in, with_stack, with_suffixes}
use Rattle.record_book.specs.NodeState.{AreNumbered, ArePut, IsInterned, IsNext}
use Rattle.record_book.specs.RecordedTrace.{line_of, node_text, nodes_text}

-- the node of a pointer that is called from a parent
abbrev pub called : ℕ → ℕ → Node
called ip parent = record { ip = ip; parent = parent; frames = 1 }

-- a node that passes a test has a number
not-none : (nodes : List Node) (ip parent k : ℕ) (node : Node) → node_number nodes ip parent ≡ None
    → slice_get nodes k ≡ Some node → is_call ip parent node ≡ false
unfolding node_number
not-none nodes ip parent k node none at =
    let within = slice_get_within nodes k node at in
    let all : length nodes ≤ position_or_len (is_call ip parent) nodes = grind (arith, nat_tests, none) in
    ap (λ (x : Node). is_call ip parent x) (sym (get_or_from_slice_get nodes k node node at))
    ∙ fails_before_first (is_call ip parent) nodes k node (omega (arith, within, all))

-- the number of a stack that is there
number-below : (known : List (List ℕ)) (ips : List ℕ) → number_in known ips ≤ length known
number-below [] ips = omega arith
number-below (first ∷ known) ips = by (number-below known ips) (bytes_eq first ips)
  where
    by : number_in known ips ≤ length known → (b : Bool)
        → cond b (length known + 1) (number_in known ips) ≤ length (first ∷ known)
    by rest true = omega arith
    by rest false = omega (arith, rest)

-- a node that isn't held has an unknown stack
unknown : (nodes : List Node) (known : List (List ℕ)) (ip parent : ℕ) → AreNumbered nodes known → AreNodes nodes
    → parent ≤ length nodes → node_number nodes ip parent ≡ None
    → number_in known (ip ∷ stack nodes parent) ≡ 0
unknown nodes known ip parent are law held none = by (number_in known (ip ∷ stack nodes parent)) refl
  where
    here : (n k : ℕ) → number_in known (ip ∷ stack nodes parent) ≡ n → n ≡ k + 1 → (node : Node)
        → slice_get nodes k ≡ Some node → ⊥
    here n k is next node at =
        let some : number_in known (ip ∷ stack nodes parent) ≢ 0 =
        λ (zero_is : number_in known (ip ∷ stack nodes parent) ≡ 0). absurd (omega (arith, zero_is, is, next)) in
        let whole : stack nodes (k + 1) ≡ ip ∷ stack nodes parent =
        ap (λ (m : ℕ). stack nodes m) (sym next ∙ sym is) ∙ are.stacks (ip ∷ stack nodes parent) some in
        let back : k + 1 - 1 ≡ k = omega arith in
        let node_is : node_at nodes (k + 1) ≡ Some node = grind (arith, nat_tests, at, back) in
        let split : node.ip ∷ stack nodes node.parent ≡ ip ∷ stack nodes parent =
        sym (law.stack_n (k + 1) node node_is) ∙ whole in
        let ip_is : node.ip ≡ ip = cc split in
        let outer : stack nodes node.parent ≡ stack nodes parent = cc split in
        let within = slice_get_within nodes k node at in
        let lower = law.parents.lower (k + 1) node node_is in
        let parent_is : node.parent ≡ parent =
        sym (are.numbers node.parent (omega (arith, lower, within))) ∙ ap (number_in known) outer
        ∙ are.numbers parent held in
        let passes : is_call ip parent node ≡ true = grind (arith, nat_tests, ip_is, parent_is) in
        true≢false (sym passes ∙ not-none nodes ip parent k node none at)

    by : (n : ℕ) → number_in known (ip ∷ stack nodes parent) ≡ n → n ≡ 0
    by zero is = refl
    by (suc k) is =
        let below = number-below known (ip ∷ stack nodes parent) in
        let within : k < length nodes = omega (arith, is, below, are.count) in
        absurd
        (here (suc k) k is (omega arith) (get_or nodes k (called 0 0)) (slice_get-get_or nodes k (called 0 0) within))

-- a stack that is known isn't put in again
known-same : (known : List (List ℕ)) (ips : List ℕ) → number_in known ips ≢ 0 → with_stack known ips ≡ known
known-same known ips some = by (number_in known ips == 0) refl
  where
    by : (b : Bool) → (number_in known ips == 0) ≡ b → cond b (ips ∷ known) known ≡ known
    by true p = absurd (some (grind (arith, nat_tests, p)))
    by false p = refl

new-known : (known : List (List ℕ)) (ips : List ℕ) → number_in known ips ≡ 0 → with_stack known ips ≡ ips ∷ known
new-known known ips none = by (number_in known ips == 0) refl
  where
    by : (b : Bool) → (number_in known ips == 0) ≡ b → cond b (ips ∷ known) known ≡ ips ∷ known
    by true p = refl
    by false p = absurd (grind (arith, nat_tests, p, none))

get-last : (xs : List Node) (x : Node) → slice_get (xs ++ x ∷ []) (length xs) ≡ Some x
get-last [] x = refl
get-last (y ∷ ys) x = get-last ys x

-- one node more
numbered-more : (nodes new : List Node) (known : List (List ℕ)) (ip parent : ℕ) → AreNumbered nodes known
    → AreNodes nodes → AreNodes new → Continues nodes new → parent ≤ length nodes
    → new ≡ nodes ++ called ip parent ∷ [] → number_in known (ip ∷ stack nodes parent) ≡ 0
    → (stack new (length nodes + 1) ≡ ip ∷ stack nodes parent) × AreNumbered new ((ip ∷ stack nodes parent) ∷ known)
numbered-more nodes new known ip parent are law new_law grown held is none = (
  newest,
  record {
    law = new_law;
    count = omega (arith, are.count, len);
    numbers = λ n within. number n within (cases_lt (length nodes) n);
    stacks = λ ips some. stack_of ips (bytes_eq (ip ∷ stack nodes parent) ips) refl some;
    frames = λ n within. deep n within (cases_lt (length nodes) n);
  },
)
  where
    len : length new ≡ length nodes + 1
    len = ap length is ∙ length-append nodes (called ip parent ∷ [])

    last : node_at new (length nodes + 1) ≡ Some (called ip parent)
    last =
        let back : length nodes + 1 - 1 ≡ length nodes = omega arith in
        let at = ap (λ (all : List Node). slice_get all (length nodes)) is ∙ get-last nodes (called ip parent) in
        grind (arith, nat_tests, at, back)

    newest : stack new (length nodes + 1) ≡ ip ∷ stack nodes parent
    newest =
        new_law.stack_n (length nodes + 1) (called ip parent) last
        ∙ ap (λ (outer : List ℕ). ip ∷ outer) (grown.stacks parent held)

    older : (n : ℕ) → n ≤ length nodes → (b : Bool) → bytes_eq (ip ∷ stack nodes parent) (stack nodes n) ≡ b
        → cond b (length known + 1) (number_in known (stack nodes n)) ≡ n
    older n within true p =
        let same : ip ∷ stack nodes parent ≡ stack nodes n =
        (bytes_eq-Decides (ip ∷ stack nodes parent) (stack nodes n)).0 p in
        let at_zero : n ≡ 0 = sym (are.numbers n within) ∙ ap (number_in known) (sym same) ∙ none in
        let empty : ip ∷ stack nodes parent ≡ [] = same ∙ ap (λ (m : ℕ). stack nodes m) at_zero ∙ law.stack_0 in
        absurd (cc empty)
    older n within false p = are.numbers n within

    itself : (b : Bool) → bytes_eq (ip ∷ stack nodes parent) (ip ∷ stack nodes parent) ≡ b
        → cond b (length known + 1) (number_in known (ip ∷ stack nodes parent)) ≡ length known + 1
    itself true p = refl
    itself false p =
        absurd (true≢false (sym ((bytes_eq-Decides (ip ∷ stack nodes parent) (ip ∷ stack nodes parent)).1 refl) ∙ p))

    number : (n : ℕ) → n ≤ length new → (length nodes < n) ⊎ (n ≤ length nodes)
        → number_in ((ip ∷ stack nodes parent) ∷ known) (stack new n) ≡ n
    number n within (inl past) =
        let at_end : n ≡ length nodes + 1 = omega (arith, len, within, past) in
        ap (λ (ips : List ℕ). number_in ((ip ∷ stack nodes parent) ∷ known) ips)
        (ap (λ (m : ℕ). stack new m) at_end ∙ newest)
        ∙ itself (bytes_eq (ip ∷ stack nodes parent) (ip ∷ stack nodes parent)) refl ∙ omega (arith, at_end, are.count)
    number n within (inr before) =
        ap (λ (ips : List ℕ). number_in ((ip ∷ stack nodes parent) ∷ known) ips) (grown.stacks n before)
        ∙ older n before (bytes_eq (ip ∷ stack nodes parent) (stack nodes n)) refl

    stack_of : (ips : List ℕ) (b : Bool) → bytes_eq (ip ∷ stack nodes parent) ips ≡ b
        → cond b (length known + 1) (number_in known ips) ≢ 0
        → stack new (cond b (length known + 1) (number_in known ips)) ≡ ips
    stack_of ips true p some =
        let at_end : length known + 1 ≡ length nodes + 1 = omega (arith, are.count) in
        ap (λ (m : ℕ). stack new m) at_end ∙ newest ∙ (bytes_eq-Decides (ip ∷ stack nodes parent) ips).0 p
    stack_of ips false p some =
        let below = number-below known ips in
        grown.stacks (number_in known ips) (omega (arith, below, are.count)) ∙ are.stacks ips some

    deep : (n : ℕ) → n ≤ length new → (length nodes < n) ⊎ (n ≤ length nodes) → frame_count new n ≡ length (stack new n)
    deep n within (inl past) =
        let at_end : length nodes + 1 ≡ n = omega (arith, len, within, past) in
        let frames = new_law.frames_n (length nodes + 1) (called ip parent) last in
        let outer = grown.frame_counts parent held ∙ are.frames parent held in
        let here : frame_count new (length nodes + 1) ≡ length (stack new (length nodes + 1)) =
        omega (arith, frames, outer, ap length newest) in
        subst (λ (m : ℕ). frame_count new m ≡ length (stack new m)) at_end here
    deep n within (inr before) =
        grown.frame_counts n before ∙ are.frames n before ∙ ap length (sym (grown.stacks n before))

-- what a node that is interned leaves
pub interned : (nodes new : List Node) (known : List (List ℕ)) (number ip parent : ℕ) → AreNumbered nodes known
    → AreNodes new → Continues nodes new → parent ≤ length nodes
    → node_interned nodes (called ip parent) ≡ record { nodes = new; number = number }
    → stack new number ≡ ip ∷ stack new parent → 0 < number → number ≤ length new
    → IsInterned nodes known new number ip parent
interned nodes new known number ip parent are new_law grown held is stack_is above within =
    by (node_number nodes ip parent) refl is
  where
    by : (found : Option ℕ) → node_number nodes ip parent ≡ found
        → of_number nodes (called ip parent) found ≡ record { nodes = new; number = number }
        → IsInterned nodes known new number ip parent
    by (Some n) at is =
        let same : nodes ≡ new = ap (λ (x : Interned). x.nodes) is in
        let whole : stack nodes number ≡ ip ∷ stack nodes parent =
        ap (λ (all : List Node). stack all number) same ∙ stack_is
        ∙ ap (λ (outer : List ℕ). ip ∷ outer) (grown.stacks parent held) in
        let number_is : number_in known (ip ∷ stack nodes parent) ≡ number =
        ap (number_in known) (sym whole)
        ∙ are.numbers number (subst (λ (all : List Node). number ≤ length all) (sym same) within) in
        let some : number_in known (ip ∷ stack nodes parent) ≢ 0 =
        λ (zero_is : number_in known (ip ∷ stack nodes parent) ≡ 0). absurd
        (omega (arith, zero_is, number_is, above)) in
        let test : (number_in known (ip ∷ stack nodes parent) == 0) ≡ false =
        grind (arith, nat_tests, number_is, above) in
        record {
          numbered =
              subst (λ (all : List Node). AreNumbered all (with_stack known (ip ∷ stack nodes parent))) same
              (subst (λ (ks : List (List ℕ)). AreNumbered nodes ks)
              (sym (known-same known (ip ∷ stack nodes parent) some)) are);
          stack_is = ap (λ (all : List Node). stack all number) (sym same) ∙ whole;
          count = ap length (sym same) ∙ ap (λ (b : Bool). cond b (length nodes + 1) (length nodes)) (sym test);
        }
    by None at is =
        let same : nodes ++ called ip parent ∷ [] ≡ new = ap (λ (x : Interned). x.nodes) is in
        let number_is : length nodes + 1 ≡ number = ap (λ (x : Interned). x.number) is in
        let none = unknown nodes known ip parent are are.law held at in
        let more = numbered-more nodes new known ip parent are are.law new_law grown held (sym same) none in
        let test : (number_in known (ip ∷ stack nodes parent) == 0) ≡ true = grind (arith, nat_tests, none) in
        record {
          numbered =
              subst (λ (ks : List (List ℕ)). AreNumbered new ks) (sym (new-known known (ip ∷ stack nodes parent) none))
              more.1;
          stack_is = ap (λ (m : ℕ). stack new m) (sym number_is) ∙ more.0;
          count =
              ap length (sym same) ∙ length-append nodes (called ip parent ∷ [])
              ∙ ap (λ (b : Bool). cond b (length nodes + 1) (length nodes)) (sym test);
        }

-- no nodes of no stacks
pub numbered-none : (nodes : List Node) → AreNodes nodes → nodes ≡ [] → AreNumbered nodes []
numbered-none nodes law none =
    let len : length nodes ≡ 0 = ap length none in
    record {
      law = law;
      count = sym len;
      numbers = λ n within. omega (arith, len, within);
      stacks = λ ips some. absurd (some refl);
      frames = λ n within.
          let at_zero : n ≡ 0 = omega (arith, len, within) in
          ap (λ (m : ℕ). frame_count nodes m) at_zero ∙ law.frames_0
          ∙ sym (ap (λ (m : ℕ). length (stack nodes m)) at_zero ∙ ap length law.stack_0);
    }

-- the line of a node that is new, and that of none that isn't
pub next-new : (old new : List Node) (known : List (List ℕ)) (node ip parent : ℕ) (before after : List ℕ)
    → AreNumbered old known → parent ≤ length old → IsInterned old known new node ip parent
    → length old < length new → after ≡ before ++ line_of (node_line ip parent)
    → IsNext old known new node ip parent before after
next-new old new known node ip parent before after are held is more wrote =
    by (number_in known (ip ∷ stack old parent) == 0) refl is.count
  where
    by : (b : Bool) → (number_in known (ip ∷ stack old parent) == 0) ≡ b
        → length new ≡ cond b (length old + 1) (length old) → IsNext old known new node ip parent before after
    by true p count = record {
      numbered = is.numbered;
      stack_is = is.stack_is;
      text =
          wrote
          ∙ ap₂ (λ (b : Bool) (n : ℕ). before ++ cond b (line_of (node_line ip n)) []) (sym p)
          (sym (are.numbers parent held));
    }
    by false p count = absurd (omega (arith, more, count))

pub next-old : (old new : List Node) (known : List (List ℕ)) (node ip parent : ℕ) (before : List ℕ)
    → IsInterned old known new node ip parent → length new ≤ length old
    → IsNext old known new node ip parent before before
next-old old new known node ip parent before is few = by (number_in known (ip ∷ stack old parent) == 0) refl is.count
  where
    by : (b : Bool) → (number_in known (ip ∷ stack old parent) == 0) ≡ b
        → length new ≡ cond b (length old + 1) (length old) → IsNext old known new node ip parent before before
    by true p count = absurd (omega (arith, few, count))
    by false p count = record {
      numbered = is.numbered;
      stack_is = is.stack_is;
      text =
          sym (append-nil before)
          ∙ ap (λ (b : Bool). before ++ cond b (line_of (node_line ip (number_in known (stack old parent)))) [])
          (sym p);
    }

-- nothing is put at first
pub put-none : (nodes : List Node) (known : List (List ℕ)) (text : List ℕ) → AreNumbered nodes known
    → ArePut known [] nodes 0 text text
put-none nodes known text are = record { numbered = are; stack_is = are.law.stack_0; text = sym (append-nil text) }

-- the node of one pointer more
pub put-more : (known : List (List ℕ)) (outer : List ℕ) (mid new : List Node) (parent node ip : ℕ)
    (first before after : List ℕ)
    → ArePut known outer mid parent first before
    → IsNext mid (with_suffixes known outer) new node ip parent before after
    → ArePut known (ip ∷ outer) new node first after
put-more known outer mid new parent node ip first before after put next = record {
  numbered =
      subst (λ (ips : List ℕ). AreNumbered new (with_stack (with_suffixes known outer) (ip ∷ ips))) put.stack_is
      next.numbered;
  stack_is = next.stack_is ∙ ap (λ (ips : List ℕ). ip ∷ ips) put.stack_is;
  text =
      next.text ∙ ap₂ (λ (x y : List ℕ). x ++ node_text (with_suffixes known outer) ip y) put.text put.stack_is
      ∙ append_assoc first (nodes_text known outer) (node_text (with_suffixes known outer) ip outer);
}

pub continues-trans : (old mid new : List Node) → Continues old mid → Continues mid new → Continues old new
continues-trans old mid new a b = record {
  grown = (
    a.grown.0 ++ b.grown.0,
    b.grown.1 ∙ ap (λ (nodes : List Node). nodes ++ b.grown.0) a.grown.1 ∙ append_assoc old a.grown.0 b.grown.0,
  );
  held = omega (arith, a.held, b.held);
  nodes = λ n within. b.nodes n (omega (arith, a.held, within)) ∙ a.nodes n within;
  stacks = λ n within. b.stacks n (omega (arith, a.held, within)) ∙ a.stacks n within;
  frame_counts = λ n within. b.frame_counts n (omega (arith, a.held, within)) ∙ a.frame_counts n within;
  numbers = λ ip parent n is. b.numbers ip parent n (a.numbers ip parent n is);
}

kept-by : {X : Type 0} (n : ℕ) (x y : X) → n ≢ 0 → cond (n == 0) x y ≡ y
kept-by n x y some = by (n == 0) refl
  where
    by : (b : Bool) → (n == 0) ≡ b → cond b x y ≡ y
    by true is = absurd (some (grind (arith, nat_tests, is)))
    by false is = refl

-- all suffixes of a stack that is numbered are
known-suffixes : (nodes : List Node) (known : List (List ℕ)) → AreNumbered nodes known
    → (ips : List ℕ) (n : ℕ) → n ≤ length nodes → stack nodes n ≡ ips
    → (with_suffixes known ips ≡ known) × (nodes_text known ips ≡ [])
known-suffixes nodes known are [] n held is = (refl, refl)
known-suffixes nodes known are (ip ∷ outer) zero held is =
    let none : ip ∷ outer ≡ [] = sym is ∙ are.law.stack_0 in
    absurd (grind (arith, none))
known-suffixes nodes known are (ip ∷ outer) (suc k) held is =
    let none : Node = called 0 0 in
    let node : Node = get_or nodes k none in
    let there : slice_get nodes k ≡ Some node = slice_get-get_or nodes k none (omega (arith, held)) in
    let back : suc k - 1 ≡ k = omega arith in
    let node_is : node_at nodes (suc k) ≡ Some node = grind (arith, nat_tests, there, back) in
    let split : node.ip ∷ stack nodes node.parent ≡ ip ∷ outer =
    sym (are.law.stack_n (suc k) node node_is) ∙ is in
    let outer_is : stack nodes node.parent ≡ outer = cc split in
    let lower = are.law.parents.lower (suc k) node node_is in
    let rest = known-suffixes nodes known are outer node.parent (omega (arith, lower, held)) outer_is in
    let number : number_in known (ip ∷ outer) ≡ suc k =
    ap (number_in known) (sym is) ∙ are.numbers (suc k) held in
    let some : number_in known (ip ∷ outer) ≢ 0 =
    λ (zero_is : number_in known (ip ∷ outer) ≡ 0). absurd (omega (arith, zero_is, number)) in (
      ap (λ (ks : List (List ℕ)). with_stack ks (ip ∷ outer)) rest.0
          ∙ kept-by (number_in known (ip ∷ outer)) ((ip ∷ outer) ∷ known) known some,
      ap₂ (λ (front : List ℕ) (ks : List (List ℕ)). front ++ node_text ks ip outer) rest.1 rest.0
          ∙ kept-by (number_in known (ip ∷ outer)) (line_of (node_line ip (number_in known outer))) []
          some,
    )

-- a node that is known brings no line
pub known-put : (nodes : List Node) (known : List (List ℕ)) (n : ℕ) (text : List ℕ)
    → AreNumbered nodes known → n ≤ length nodes → ArePut known (stack nodes n) nodes n text text
known-put nodes known n text are held =
    let kept = known-suffixes nodes known are (stack nodes n) n held refl in
    record {
      numbered = subst (λ (ks : List (List ℕ)). AreNumbered nodes ks) (sym kept.0) are;
      stack_is = refl;
      text = sym (ap (λ (more : List ℕ). text ++ more) kept.1 ∙ append-nil text);
    }
