-- Each tunnel of a link to a gateway that is to be told its end is told it.
use Rattle.std.specs.Prelude.{⊤}
use Rattle.std.proofs.Common.{◌≡◌, ⊎_elim, inr, ℕ, ◌+◌, ◌-◌, ◌<◌, ◌≤◌, ◌^◌, ◌==◌, Bool, true, false, cond, List, [], Option, Some, None, is_some, IsSome, refl, ap, sym, ◌∙◌, subst, arith}
use Rattle.std.proofs.lemmas.Bool.{cases_eq, cases_order, eq-eqb, false≢true, true≢false}
use Rattle.std.specs.FinMap.{get, insert}
use Rattle.hb_base.specs.declared.cause.Cause.{Cause}
use Rattle.hb_captured.specs.Captured as m
use Rattle.hb_captured.specs.Captured.{Captured, Stage, is_raw}
use Rattle.hb_captured.specs.Runs.{MayHear}
use Rattle.hb_frames.specs.Numbers.{largest}
use Rattle.hb_gate.specs.Calls as gate
use Rattle.hb_gate.specs.Shows as gate_shows
use Rattle.hb_gate.proofs.Mailed.{mail_taken}
use Rattle.hb_gate.specs.Streams.{IsNext, TakesBy, TakesFrom, TakesMail, mail_by, mail_on}
use Rattle.std.specs.Option.{option_map}
use Rattle.hb_gate.specs.declared.stream.Stream as code_stream
use Rattle.hb_gate.specs.declared.gate.Gate.{Gate}
use Rattle.hb_gate.specs.declared.looking.Mail.{Mail}
use Rattle.hb_gateway.specs.Gateway.{Gateway, Stream, stage_of}
use Rattle.hb_gateway.specs.Response.{fails}
use Rattle.hb_gateway.specs.Runs as gateways
use Rattle.hb_link.proofs.Noted.{takes_none}
use Rattle.hb_link.specs.Noted.{Told}
use Rattle.hb_map.proofs.Laws.{put_here, put_elsewhere, written_where_some}
use Rattle.hb_map.specs.Keyed.{written}
use Rattle.hb_model.specs.declared.config.NodeConfig.{NodeConfig}
use Rattle.hb_proxy.proofs.Aims.{aims_fit, is_asked}
use Rattle.hb_proxy.proofs.Gates.{gates_run}
use Rattle.hb_proxy.specs.Machine.{Machine, Outward, outward}
use Rattle.hb_proxy.specs.Points.{Point, gates_of}
use Rattle.hb_proxy.specs.Runs.{StandsFor}
use Rattle.hb_proxy.specs.Seen.{IsGateThere}
use Rattle.hb_proxy.specs.Streams.{HasTunnel}
use Rattle.hb_relay.specs.declared.relay.Relay.{Relay}
use Rattle.hb_relays.specs.Joining.{Gates, Links, Streams, ShowsSome, all, but, not_of}
use Rattle.hb_relays.specs.Looking.{BehindOn, DeliversTo, GoesOpen, IsBehind, IsTold, MailAt, MailOn, OnOpen, Settles, ShowsOpen, TellsBy, ToldAt, ToldOn}
use Rattle.hb_relays.specs.Shows.{IsAway, IsAwayBy, ShowsGate, ShowsRelay}
use Rattle.hb_relays.specs.Walks.{with_gate}
use Rattle.hb_relays.specs.declared.relays.Relays.{Relays}
use Rattle.hb_relays.proofs.Progress.{goes_then, stands_on}
use Rattle.hb_relays.proofs.Tells.{around_open, on_stream, told_open}

-- nothing of a link but what its tunnels are to be told changed
pub record OnlyMails (w v : Gateway) : Type 0 where
  pub phase : v.phase ≡ w.phase
  pub conn : v.conn ≡ w.conn
  pub stages : (s : ℕ) → stage_of v s ≡ stage_of w s

mails_then : (u v w : Gateway) → OnlyMails u v → OnlyMails v w → OnlyMails u w
mails_then u v w first more = record {
  phase = more.phase ∙ first.phase;
  conn = more.conn ∙ first.conn;
  stages = λ s. more.stages s ∙ first.stages s;
}

-- a failure may always be heard
pub may_fail : (stage : Stage) (why : Cause) (x : Captured) → MayHear stage (fails why) x
may_fail m.unborn why x = tt
may_fail m.arriving why x = tt
may_fail m.fronting why x = tt
may_fail m.due why x = tt
may_fail m.opening why x = tt
may_fail m.accepting why x = tt
may_fail m.live why x = tt
may_fail (m.failed first) why x = tt
may_fail (m.ended first) why x = tt
may_fail (m.over first) why x = tt

-- a link that isn't there has no stream
pub away_raw : (g : NodeConfig) (x : Machine) (points : List Point) → StandsFor g x points → (l : ℕ) → IsAway (x.plain l)
    → is_raw (x.plain l) ≡ true
away_raw g x points stands l away = by (x.plain l).stage refl away
  where
    unasked : (stage : Stage) → (x.plain l).stage ≡ stage → is_asked stage ≡ false → is_raw (x.plain l) ≡ true
    unasked stage is none = ap (λ (n : ℕ). n == 0) ((aims_fit g x points stands l).unasked (ap is_asked is ∙ none))

    by : (stage : Stage) → (x.plain l).stage ≡ stage → IsAwayBy stage (x.plain l) → is_raw (x.plain l) ≡ true
    by m.unborn is gone = unasked m.unborn is refl
    by (m.over why) is gone = gone.2
    by m.arriving is gone = absurd gone
    by m.fronting is gone = absurd gone
    by m.due is gone = absurd gone
    by m.opening is gone = absurd gone
    by m.accepting is gone = absurd gone
    by m.live is gone = absurd gone
    by (m.failed why) is gone = absurd gone
    by (m.ended why) is gone = absurd gone

-- of each run of a link that is shown
pub each_shown : (g : NodeConfig) (x : Machine) (points : List Point) → StandsFor g x points → (n : ℕ) (kept : Gate)
    → ShowsGate n (Some kept) (x.gates n) → (P : Gateway → Type 0) → gate.OnEach kept P → P (x.gates n)
each_shown g x points stands n kept shown P each =
    each (x.gates n) (gates_of n points)
    (subst (λ (i : ℕ). gateways.StandsFor i (x.gates n) (gates_of n points)) (sym shown.0) (gates_run g x points n stands)) shown.1

pub gated : (some : Links) (streams : Streams) (calm : Links) (g : NodeConfig) (k : Relays) (gates : Gates) (x : Outward)
    → ((j : ℕ) → ShowsGate j (get gates j) (x.gates j)) → ((j : ℕ) → IsSome (get gates j) → IsSome (get k.gates j))
    → ShowsSome some streams calm g k x → ShowsSome some streams calm g (record k { gates = gates }) x
gated some streams calm g k gates x same there shows = record {
  relays = shows.relays;
  index = shows.index;
  numbered = shows.numbered;
  idle = shows.idle;
  counted = shows.counted;
  gates = same;
  gate_numbered = λ n is. shows.gate_numbered n (there n is);
  gate_idle = shows.gate_idle;
  gates_calm = shows.gates_calm;
  streams = shows.streams;
  wanting = shows.wanting;
}

put_shows : (g : NodeConfig) (z : Machine) (n : ℕ) (a : Relays) (after : Gate) {kept : Gate} → get a.gates n ≡ Some kept → after.number ≡ n
    → gate_shows.Shows after (z.gates n) × IsGateThere (z.gates n).phase → ShowsOpen n g a (outward z) → (j : ℕ)
    → ShowsGate j (get (insert a.gates n after) j) (z.gates j)
put_shows g z n a after is number shown shows j = ⊎_elim
    (λ at. subst (λ (i : ℕ). ShowsGate i (get (insert a.gates n after) i) (z.gates i)) (sym at)
    (subst (λ (o : Option Gate). ShowsGate n o (z.gates n)) (sym (put_here a.gates n after)) (number, shown.0, shown.1)))
    (λ apart. subst (λ (o : Option Gate). ShowsGate j o (z.gates j)) (sym (put_elsewhere a.gates n after j apart)) (shows.gates j))
    (cases_eq j n)

put_some : (a : Relays) (n : ℕ) (after : Gate) {kept : Gate} → get a.gates n ≡ Some kept → (j : ℕ)
    → IsSome (get (insert a.gates n after) j) → IsSome (get a.gates j)
put_some a n after is j some = ⊎_elim (λ at. ap (λ (i : ℕ). is_some (get a.gates i)) at ∙ ap is_some is)
    (λ apart. sym (ap is_some (put_elsewhere a.gates n after j apart)) ∙ some) (cases_eq j n)

-- a stream that the code hasn't is told nothing
gone_told : (o : Option code_stream.Stream) (t : Stream) → gate_shows.ShowsStream o t → o ≡ None → t.mail ≡ None
gone_told None t shows is = shows.1
gone_told (Some k) t shows is = absurd (let no : Some k ≡ None = is in cc no)

-- the streams in front of one
abbrev pub IsBelow : Option ℕ → ℕ → Type 0
IsBelow None s = ⊤
IsBelow (Some n) s = s < n

-- behind one stream: those in front of the next one
told_below : (g : NodeConfig) (z : Machine) (n : ℕ) (c : Relays) → ShowsOpen n g c (outward z) → IsSome (get c.gates n) → (s : ℕ)
    (next : Option ℕ) → IsBehind c n s next → (v : Gateway) → z.gates n ≡ v → ((i : ℕ) → i < s → (v.streams i).mail ≡ None)
    → (v.streams s).mail ≡ None → (j : ℕ) → IsBelow next j → (v.streams j).mail ≡ None
told_below g z n c shows kept s next behind v v_is below here j is = by (get c.gates n) refl behind
  where
    by : (o : Option Gate) → get c.gates n ≡ o → BehindOn o s next → (v.streams j).mail ≡ None
    by None none first = absurd (false≢true (sym (ap is_some none) ∙ kept))
    by (Some w) found first =
        let shown = (subst (λ (o : Option Gate). ShowsGate n o v) found (subst (ShowsGate n (get c.gates n)) v_is (shows.gates n))).1 in
        ⊎_elim (λ same. subst (λ (i : ℕ). (v.streams i).mail ≡ None) (sym same) here)
        (λ either. ⊎_elim (below j)
        (λ greater. gone_told (get w.streams j) (v.streams j) (shown.streams j) (absent w shown next first is greater)) either)
        (cases_order j s)
      where
        absent : (w : Gate) → gate_shows.Shows w v → (next : Option ℕ) → IsNext w.streams (s + 1) next → IsBelow next j → s < j
            → get w.streams j ≡ None
        absent w shown (Some m) first less greater = first.2 j (omega (arith, greater)) less
        absent w shown None first less greater = narrow (get w.streams j) refl
          where
            narrow : (o : Option code_stream.Stream) → get w.streams j ≡ o → o ≡ None
            narrow None is = refl
            narrow (Some t) is =
                let few : j ≤ largest = shown.numbered j (ap is_some is) in
                sym is ∙ first j (omega (arith, greater)) (omega (arith, few))

-- SO FAR the mail was delivered: of the streams in front of one
pub record ToldBelow (from : Option ℕ) (w v : Gateway) : Type 0 where
  pub only : OnlyMails w v
  pub told : (s : ℕ) → IsBelow from s → (v.streams s).mail ≡ None

pub record Mails (n : ℕ) (old k : Relays) (from : Option ℕ) (told now : Told) : Type 0 where
  pub kept : IsSome (get k.gates n)
  pub goes : OnOpen n old (λ g x. GoesOpen n (ToldBelow from (x.gates n)) g x k told now)

abbrev pub Mailing : ℕ → Relays → Relays → Option ℕ → Told → Told → Type 0
Mailing n old k from told now = IsSome (get old.gates n) → Mails n old k from told now

pub mails_start : (n : ℕ) (k : Relays) (told : Told) → Mailing n k k (Some 0) told told
mails_start n k told some = record {
  kept = some;
  goes = λ g x points stands shows. record {
    goes = record {
      more = [];
      reached = x;
      leads = refl;
      shows = shows;
      undue = λ l un. un;
      noted = takes_none told;
    };
    here = record {
      only = record { phase = refl; conn = refl; stages = λ s. refl };
      told = λ s below. absurd (omega (arith, below));
    };
  };
}

untold : (s : ℕ) (w : Gateway) (j : ℕ) (t : Stream) → (cond (j == s) (record t { mail = None }) t).stage ≡ t.stage
untold s w j t = by (j == s)
  where
    by : (b : Bool) → (cond b (record t { mail = None }) t).stage ≡ t.stage
    by true = refl
    by false = refl

mail_same : (s j : ℕ) (t : Stream) → t.mail ≡ None → (cond (j == s) (record t { mail = None }) t).mail ≡ None
mail_same s j t none = by (j == s)
  where
    by : (b : Bool) → (cond b (record t { mail = None }) t).mail ≡ None
    by true = refl
    by false = none

mail_here : (s : ℕ) (t : Stream) → (cond (s == s) (record t { mail = None }) t).mail ≡ None
mail_here s t = ap (λ (b : Bool). (cond b (record t { mail = None }) t).mail) (eq-eqb s s refl)

-- whose it is
pub mail_stream : (s : ℕ) (mail : Mail) (o : Option code_stream.Stream) → Some mail ≡ mail_on s o → mail.stream ≡ s
mail_stream s mail None is = absurd (cc is)
mail_stream s mail (Some k) is = by k.mail refl
  where
    by : (o : Option Cause) → k.mail ≡ o → mail.stream ≡ s
    by None none = absurd (let no : Some mail ≡ None = is ∙ ap (λ (p : Option Cause). mail_by p s k) none in cc no)
    by (Some why) some =
        let both : Some mail ≡ Some (record { stream = s; link = k.link; cause = why; begun = k.begun }) =
        is ∙ ap (λ (p : Option Cause). mail_by p s k) some in
        let same : mail ≡ record { stream = s; link = k.link; cause = why; begun = k.begun } = cc both in
        ap (λ (w : Mail). w.stream) same

-- where there is none the tunnel was told
pub none_mail : (s : ℕ) (o : Option code_stream.Stream) (t : Stream) → mail_on s o ≡ None → gate_shows.ShowsStream o t → t.mail ≡ None
none_mail s None t none shown = shown.1
none_mail s (Some k) t none shown = shown.mail ∙ by k.mail refl
  where
    by : (o : Option Cause) → k.mail ≡ o → option_map fails k.mail ≡ None
    by None is = ap (option_map fails) is
    by (Some why) is = absurd (let no = sym none ∙ ap (λ (p : Option Cause). mail_by p s k) is in cc no)

-- where none is taken there is none
pub none_taken : (s : ℕ) (k new : Gate) → TakesMail s k None new → (new ≡ k) × (mail_on s (get k.streams s) ≡ None)
none_taken s k new takes = by (get k.streams s) takes.0 takes.1
  where
    of : (old : code_stream.Stream) (o : Option Cause) → None ≡ mail_by o s old → TakesBy o s old k new → new ≡ k
    of old None told takes = takes
    of old (Some why) told takes = absurd (cc)

    by : (o : Option code_stream.Stream) → None ≡ mail_on s o → TakesFrom o s k new → (new ≡ k) × (mail_on s o ≡ None)
    by None told takes = (takes, refl)
    by (Some old) told takes = (of old old.mail told takes, sym told)

-- the link behind one stream: only that one's mail is taken, and others that had none have none
pub record OneTold (s : ℕ) (w v : Gateway) : Type 0 where
  pub only : OnlyMails w v
  pub here : (v.streams s).mail ≡ None
  pub others : (j : ℕ) → (w.streams j).mail ≡ None → (v.streams j).mail ≡ None

-- what is told of an end changes no link to a gateway
pub delivered_gates : (o : Option Relay) (mail : Mail) (b c : Relays) (mid now : Told) → DeliversTo o mail b mid c now → c.gates ≡ b.gates
delivered_gates None mail b c mid now same = ap (λ (k : Relays). k.gates) same.0
delivered_gates (Some link) mail b c mid now it = ap (λ (k : Relays). k.gates) it.4

pub told_gates : (result : Option Mail) (b c : Relays) (mid now : Told) → TellsBy result b mid c now → c.gates ≡ b.gates
told_gates None b c mid now same = ap (λ (k : Relays). k.gates) same.0
told_gates (Some mail) b c mid now it = delivered_gates (get b.relays mail.link) mail b c mid now it

-- one stream's is
module _ (n s : ℕ) (a b c : Relays) (result : Option Mail) (mid now : Told) (taken : MailAt n s result a b)
    (tells : TellsBy result b mid c now) where
  step : (g : NodeConfig) (z : Machine) (points : List Point) → StandsFor g z points → ShowsOpen n g a (outward z)
      → (o : Option Gate) → get a.gates n ≡ o → IsSome o → (r : Option Mail) → MailOn o n s r a b → TellsBy r b mid c now
      → GoesOpen n (OneTold s (z.gates n)) g z c mid now
  step g z points stands shows None is some r took told_so = absurd (false≢true some)
  step g z points stands shows (Some kept) is some None (after, took, b_is) told_so =
      let shown = subst (λ (o : Option Gate). ShowsGate n o (z.gates n)) is (shows.gates n) in
      let none = none_taken s kept after took in
      subst (λ (v : Relays). GoesOpen n (OneTold s (z.gates n)) g z v mid now) (sym told_so.0)
      (subst (λ (t : Told). GoesOpen n (OneTold s (z.gates n)) g z b mid t) (sym told_so.1) (record {
        goes = record {
          more = [];
          reached = z;
          leads = refl;
          shows = subst (λ (v : Relays). ShowsOpen n g v (outward z)) (sym b_is)
              (gated all (not_of n) (but n) g a (insert a.gates n after) (outward z)
              (λ j. put_shows g z n a after is (ap (λ (w : Gate). w.number) none.0 ∙ shown.0)
              (subst (λ (w : Gate). gate_shows.Shows w (z.gates n)) (sym none.0) shown.1, shown.2) shows j)
              (λ j some_so. put_some a n after is j some_so) shows);
          undue = λ l un. un;
          noted = takes_none mid;
        };
        here = record {
          only = record { phase = refl; conn = refl; stages = λ j. refl };
          here = none_mail s (get kept.streams s) ((z.gates n).streams s) none.1 (shown.1.streams s);
          others = λ j was. was;
        };
      }))
  step g z points stands shows (Some kept) is some (Some mail) (after, took, b_is) told_so =
      let shown = subst (λ (o : Option Gate). ShowsGate n o (z.gates n)) is (shows.gates n) in
      let tells_end = mail_taken s kept after mail took in
      let of = each_shown g z points stands n kept shown
      (λ (w : Gateway). gate.TellsOf mail.stream (fails mail.cause) mail.begun mail.link w after) tells_end.1 in
      let has : HasTunnel ((z.gates n).streams mail.stream) =
      inr (λ none. (let no : None ≡ Some (fails mail.cause) = sym none ∙ of.tells.steps.0 in cc no)) in
      by of has (get a.relays mail.link) refl (subst (λ (v : Relays). DeliversTo (get v.relays mail.link) mail v mid c now) b_is told_so)
    where
      by : (of : gate.TellsOf mail.stream (fails mail.cause) mail.begun mail.link (z.gates n) after)
          → (has : HasTunnel ((z.gates n).streams mail.stream)) → (o : Option Relay) → get a.relays mail.link ≡ o
          → DeliversTo (get a.relays mail.link) mail (with_gate n after a) mid c now → GoesOpen n (OneTold s (z.gates n)) g z c mid now
      by of has None gone told_to =
          absurd (true≢false (sym (away_raw g z points stands mail.link
          (subst (λ (o : Option Relay). ShowsRelay mail.link o (z.plain mail.link)) gone (shows.relays mail.link)))
          ∙ on_stream g z points stands n mail.stream has mail.link of.captured))
      by of has (Some link) found told_to =
          let it = subst (λ (o : Option Relay). DeliversTo o mail (with_gate n after a) mid c now) found told_to in
          let may = may_fail (z.plain mail.link).stage mail.cause (z.plain mail.link) in
          let shown = subst (λ (o : Option Gate). ShowsGate n o (z.gates n)) is (shows.gates n) in
          let on_it = told_open g a mail.link n mail.stream (fails mail.cause) of.count link it.0 kept after it.1 it.2 mid now z points
          stands (around_open n g a (outward z) shows) found is shown.0 shown.2 of.captured has of.tells
          (mail_taken s kept after mail took).0 (it.3 of.count of.counted_is) may it.5 in
          subst (λ (v : Relays). GoesOpen n (OneTold s (z.gates n)) g z v mid now) (sym it.4) (record {
            goes = on_it.goes;
            here = subst (OneTold s (z.gates n)) (sym on_it.here) (record {
              only = record { phase = refl; conn = refl; stages = λ j. untold mail.stream (z.gates n) j ((z.gates n).streams j) };
              here = subst (λ (i : ℕ). (cond (s == i) (record ((z.gates n).streams s) { mail = None }) ((z.gates n).streams s)).mail ≡ None)
                  (sym (mail_stream s mail (get kept.streams s) took.0)) (mail_here s ((z.gates n).streams s));
              others = λ j was. mail_same mail.stream j ((z.gates n).streams j) was;
            });
          })

  kept_after : IsSome (get a.gates n) → IsSome (get c.gates n)
  kept_after some = by_next (get a.gates n) refl taken
    where
      by_next : (o : Option Gate) → get a.gates n ≡ o → MailOn o n s result a b → IsSome (get c.gates n)
      by_next None is took = absurd (false≢true (sym (ap is_some is) ∙ some))
      by_next (Some kept) is took =
          ap is_some (ap (λ (gates : Gates). get gates n) (told_gates result b c mid now tells ∙ ap (λ (k : Relays). k.gates) took.2)
          ∙ put_here a.gates n took.0)

  pub mails_go : (old : Relays) (told : Told) (next : Option ℕ) → IsBehind c n s next → Mailing n old a (Some s) told mid
      → Mailing n old c next told now
  mails_go old told next behind before some =
      let kept = kept_after (before some).kept in
      record {
        kept = kept;
        goes = λ g x points stands shows.
            (let first = (before some).goes g x points stands shows in
            let at = stands_on g x points first.goes.more first.goes.reached stands first.goes.leads in
            let one = step g first.goes.reached at.0 at.1 first.goes.shows (get a.gates n) refl (before some).kept result taken tells in
            let v = one.goes.reached.gates n in
            record {
              goes = goes_then all all (not_of n) (not_of n) (but n) (but n) g x a c told mid now first.goes one.goes;
              here = record {
                only = mails_then (x.gates n) (first.goes.reached.gates n) v first.here.only one.here.only;
                told = λ j below. told_below g one.goes.reached n c one.goes.shows kept s next behind v refl
                    (λ i less. one.here.others i (first.here.told i less)) one.here.here j below;
              };
            });
      }

-- none is left
pub mails_end : (n : ℕ) (old a : Relays) (told now : Told) → Mailing n old a None told now → Settles n old told a now
mails_end n old a told now mailing some g x points stands shows =
    let first = (mailing some).goes g x points stands shows in
    record {
      goes = first.goes;
      here = record {
        told = λ s. first.here.told s tt;
        phase = first.here.only.phase;
        conn = first.here.only.conn;
        stages = first.here.only.stages;
      };
    }

-- how far the walk is from its end
abbrev pub streams_left : Option ℕ → ℕ
streams_left None = 0
streams_left (Some s) = 2 ^ 32 - s

-- as the code comes to it
pub mail_is : (k m : Relays) (gates : Gates) (n s : ℕ) (kept after : Gate) (mail : Option Mail) → get k.gates n ≡ Some kept
    → TakesMail s kept mail after → gates ≡ written k.gates n after → m ≡ record k { gates = gates } → MailAt n s mail k m
mail_is k m gates n s kept after mail is takes gates_is m_is =
    subst (λ (o : Option Gate). MailOn o n s mail k m) (sym is)
    (after, takes, m_is ∙ ap (λ (all : Gates). record k { gates = all }) (gates_is ∙ written_where_some k.gates n after (ap is_some is)))

-- NONE IS LEFT TO BE TOLD: nothing is done
pub told_already : (n : ℕ) (k : Relays) (told : Told) → ToldAt n k true → Settles n k told k told
told_already n k told is some g x points stands shows = by (get k.gates n) some is (shows.gates n)
  where
    by : (o : Option Gate) → IsSome o → ToldOn o true → ShowsGate n o (x.gates n) → GoesOpen n (IsTold (x.gates n)) g x k told told
    by None some is shown = absurd (true≢false (sym some))
    by (Some kept) some is shown = record {
      goes = record {
        more = [];
        reached = x;
        leads = refl;
        shows = shows;
        undue = λ l un. un;
        noted = takes_none told;
      };
      here = record { told = is refl (x.gates n) shown.1; phase = refl; conn = refl; stages = λ s. refl };
    }
