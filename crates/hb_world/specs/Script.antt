-- What the world of a script has come to behind a trace: the lines that its waits applied, less what its calls used up.
use Rattle.std.specs.Prelude.{ℕ, ◌-◌, ◌==◌, max, Bool, true, false, ◌&&◌, if◌then◌else◌, List, [], ◌∷◌, ◌++◌, length, drop, Option, Some, None}
use Rattle.std.specs.List.{flat_map, fold, list_any}
use Rattle.std.specs.Option.{is_some, unwrap_or, option_map}
use Rattle.hb_base.specs.Count.{one_more}
use Rattle.hb_base.specs.declared.door.Door.{Door}
use Rattle.hb_world.specs.declared.entry.Entry.{Entry}
use Rattle.hb_world.specs.declared.entry.Entry.TheVariants as e
use Rattle.hb_world.specs.declared.entry.ReadyItem.{ReadyItem}
use Rattle.hb_world.specs.declared.entry.ReadyItem.TheVariants as item
use Rattle.hb_world.specs.declared.entry.Woken.{Woken}
use Rattle.hb_world.specs.declared.entry.Woken.TheVariants as woken
use Rattle.hb_world.specs.declared.line.Line.{Line}
use Rattle.hb_world.specs.declared.line.Line.TheVariants as line
use Rattle.hb_world.specs.declared.turn.Ending.{Ending}
use Rattle.hb_world.specs.declared.turn.Ending.TheVariants as ending
use Rattle.hb_world.specs.Trace.{lives, listens, same_door}

-- this is the number, where there is one
abbrev pub is_number : ℕ → Option ℕ → Bool
is_number k None = false
is_number k (Some l) = l == k

-- how the wait ends that this line ends
abbrev pub woken_by : Line → Option Ending
woken_by line.Wake = Some ending.Woke
woken_by line.Tick = Some ending.Tick
woken_by line.Stop = Some ending.Stop
woken_by line.FaultWait = Some ending.Failed
woken_by _ = None

-- the lines up to and including the next that ends a wait
abbrev pub turn_of : List Line → List Line
turn_of [] = []
turn_of (l ∷ ls) = if is_some (woken_by l) then l ∷ [] else l ∷ turn_of ls

-- how the next wait ends: by the next line that ends a wait, at the end of the script with Stop
abbrev pub turn_ends : List Line → Ending
turn_ends [] = ending.Stop
turn_ends (l ∷ ls) = unwrap_or (woken_by l) (turn_ends ls)

-- the link that a line names
abbrev pub link_of : Line → Option ℕ
link_of (line.Open l) = Some l
link_of (line.Refuse l) = Some l
link_of (line.Piece l bytes) = Some l
link_of (line.End l) = Some l
link_of (line.Break l) = Some l
link_of (line.Room l room) = Some l
link_of _ = None

-- the door or link that a line names
abbrev pub named_by : Line → Option ReadyItem
named_by (line.Accept d) = Some (item.Door d)
named_by l = option_map (λ k. item.Link k) (link_of l)

-- a line names this link
abbrev pub is_of : ℕ → Line → Bool
is_of link l = is_number link (link_of l)

-- two items are the same
abbrev pub same_item : ReadyItem → ReadyItem → Bool
same_item (item.Door d) (item.Door e) = same_door d e
same_item (item.Link k) (item.Link l) = k == l
same_item _ _ = false

-- a listening door, or a link that lives
abbrev pub may_be_ready : List Entry → ReadyItem → Bool
may_be_ready trace (item.Door d) = listens d trace
may_be_ready trace (item.Link l) = lives l trace

-- an item behind others, unless it is among them
abbrev pub with_item : List ReadyItem → ReadyItem → List ReadyItem
with_item items i = if list_any (same_item i) items then items else items ++ i ∷ []

-- and if it may be ready
abbrev pub with_named : List Entry → List ReadyItem → Option ReadyItem → List ReadyItem
with_named trace items None = items
with_named trace items (Some i) = if may_be_ready trace i then with_item items i else items

-- the listening doors and living links that lines name, in order, each once
abbrev pub ready_in : List Line → List Entry → List ReadyItem
ready_in lines trace = fold (λ items l. with_named trace items (named_by l)) [] lines

-- what a script says of a link: how its finish answers, the pieces that are left to be read, whether it ends behind
-- them, whether it is broken, and how many bytes it takes, where that is limited
pub record LinkScript : Type 0 where
  pub opening : Option Bool
  pub unread : List (List ℕ)
  pub ended : Bool
  pub broken : Bool
  pub room : Option ℕ

-- a link of which no line speaks
abbrev pub blank : LinkScript
blank = record { opening = None; unread = []; ended = false; broken = false; room = None }

-- the piece that a line gives; one without bytes gives nothing to read
abbrev pub piece_of : List ℕ → List (List ℕ)
piece_of [] = []
piece_of (b ∷ bytes) = (b ∷ bytes) ∷ []

-- the pieces that a line gives
abbrev pub pieces_by : Line → List (List ℕ)
pieces_by (line.Piece l bytes) = piece_of bytes
pieces_by _ = []

-- the pieces that lines give a link
abbrev pub pieces_on : ℕ → List Line → List (List ℕ)
pieces_on link lines = flat_map (λ l. if is_of link l then pieces_by l else []) lines

-- the pieces once so many bytes of the first were read
abbrev pub without_bytes : ℕ → List (List ℕ) → List (List ℕ)
without_bytes n [] = []
without_bytes n (p ∷ ps) = if n == length p then ps else drop n p ∷ ps

-- the room once so many bytes were written
abbrev pub less_room : ℕ → Option ℕ → Option ℕ
less_room n None = None
less_room n (Some room) = Some (room - n)

-- what a script says of a link once one more line that names it is applied
abbrev pub said_with : LinkScript → Line → LinkScript
said_with k (line.Open l) = record k { opening = Some true }
said_with k (line.Refuse l) = record k { opening = Some false }
said_with k (line.Piece l bytes) = record k { unread = k.unread ++ piece_of bytes }
said_with k (line.End l) = record k { ended = true }
said_with k (line.Break l) = record k { broken = true }
said_with k (line.Room l room) = record k { room = Some room }
said_with k _ = k

-- and once one more line is applied
abbrev pub link_with : ℕ → LinkScript → Line → LinkScript
link_with link k l = if is_of link l then said_with k l else k

-- and once one more entry stands in the trace
abbrev pub link_after : ℕ → LinkScript → Entry → LinkScript
link_after link k (e.Came l bytes) = if l == link then record k { unread = without_bytes (length bytes) k.unread } else k
link_after link k (e.Went l bytes) = if l == link then record k { room = less_room (length bytes) k.room } else k
link_after link k _ = k

-- how many connections wait at a door, once one more line is applied
abbrev pub waiting_with : Bool → Door → ℕ → Line → ℕ
waiting_with listening door n (line.Accept d) = if same_door d door && listening then one_more n else n
waiting_with listening door n _ = n

-- and once one more entry stands in the trace
abbrev pub waiting_after : Door → ℕ → Entry → ℕ
waiting_after door n (e.Accepted l d) = if same_door d door then n - 1 else n
waiting_after door n _ = n

-- how many of the next dials fail, once one more line is applied
abbrev pub failing_with : ℕ → Line → ℕ
failing_with n (line.NoDial k) = max n k
failing_with n _ = n

-- and once one more entry stands in the trace
abbrev pub failing_after : ℕ → Entry → ℕ
failing_after n (e.Dialled l to why) = n - 1
failing_after n (e.DialFailed to why) = n - 1
failing_after n _ = n

-- the trace, the lines to come, the items that wait to be told, and what the lines that were applied say of each link,
-- of each door, and of the next dials
pub record Standing : Type 0 where
  pub trace : List Entry
  pub coming : List Line
  pub rest : List ReadyItem
  pub links : ℕ → LinkScript
  pub waiting : Door → ℕ
  pub failing : ℕ

-- before any call
abbrev pub start : List Line → Standing
start lines = record { trace = []; coming = lines; rest = []; links = λ l. blank; waiting = λ d. 0; failing = 0 }

-- once these lines are applied
abbrev pub with_lines : List Line → Standing → Standing
with_lines turn s = record s {
  links = λ l. fold (link_with l) (s.links l) turn;
  waiting = λ d. fold (waiting_with (listens d s.trace) d) (s.waiting d) turn;
  failing = fold failing_with s.failing turn;
}

-- no Stop: what isn't told yet is told by the next waits
abbrev pub kept_for : Ending → List ReadyItem → List ReadyItem
kept_for ending.Stop items = []
kept_for _ items = drop 1024 items

-- a wait applies the lines up to the next that ends a wait
abbrev pub turned : Standing → Standing
turned s = record (with_lines (turn_of s.coming) s) {
  coming = drop (length (turn_of s.coming)) s.coming;
  rest = kept_for (turn_ends s.coming) (ready_in (turn_of s.coming) s.trace);
}

-- while items wait to be told, a wait applies none
abbrev pub waited : Standing → Standing
waited s = if length s.rest == 0 then turned s else record s { rest = drop 1024 s.rest }

-- once this entry stands in the trace, whatever waits did before
abbrev pub with_entry : Standing → Entry → Standing
with_entry s e = record s {
  trace = s.trace ++ e ∷ [];
  links = λ l. link_after l (s.links l) e;
  waiting = λ d. waiting_after d (s.waiting d) e;
  failing = failing_after s.failing e;
}

-- one more entry that tells how a wait ended; a glance applies no line
abbrev pub after_wait : Woken → Standing → Entry → Standing
after_wait woken.Glanced s x = with_entry s x
after_wait woken.GlanceFailed s x = with_entry s x
after_wait _ s x = record (waited s) { trace = s.trace ++ x ∷ [] }

-- one more entry of the trace
abbrev pub after_entry : Standing → Entry → Standing
after_entry s (e.Wait ready how) = after_wait how s (e.Wait ready how)
after_entry s e = with_entry s e

-- what a script has come to behind a trace
abbrev pub standing : List Line → List Entry → Standing
standing lines trace = fold after_entry (start lines) trace
