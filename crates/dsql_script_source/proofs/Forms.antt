-- What holds of the reading of each form of a line holds of each reading by words. The proof goes through the first
-- words of the forms.
use Rattle.std.proofs.Common.{◌≡◌, ℕ, Bool, true, false, List, ◌∷◌, Option, refl}
use Rattle.std.specs.Prelude.{if◌then◌else◌, codes}
use Rattle.std.specs.Str.{bytes_eq}
use Rattle.dsql_history.specs.declared.event.Setting.{Setting}
use Rattle.dsql_history.specs.declared.event.Setting.TheVariants.{MaxOpen, MaxIdle, MaxLife, MaxIdleTime}
use Rattle.dsql_script_reader.specs.declared.script.Head.{Head}
use Rattle.dsql_script_reader.specs.ScriptLines.{Reading, client_line, start_line, set_line, tick_line, plan_line, step_line, version_line, caps_line, form_of}

pub either : (P : Reading → Type 0) (b : Bool) (x y : Reading) → (b ≡ true → P x) → (b ≡ false → P y) → P (if b then x else y)
either P true x y h k = h refl
either P false x y h k = k refl

pub each_form : (P : Reading → Type 0) (head : Head) (first : List ℕ) (words : List (List ℕ)) (array : Option (List ℕ)) → P (version_line head words array) → P (caps_line head words array)
    → ((setting : Setting) → P (set_line setting words array)) → (bytes_eq first (codes "tick") ≡ true → P (tick_line words array)) → P (plan_line words array)
    → (bytes_eq first (codes "start") ≡ true → P (start_line words array)) → (bytes_eq first (codes "step") ≡ true → P (step_line words array)) → P (client_line false first words array)
    → P (form_of head (first ∷ words) array)
each_form P head first words array version caps set tick plan start step client =
    let at_step = if bytes_eq first (codes "step") then step_line words array else client_line false first words array in
    let at_start = if bytes_eq first (codes "start") then start_line words array else at_step in
    let at_plan = if bytes_eq first (codes "fault") then plan_line words array else at_start in
    let at_tick = if bytes_eq first (codes "tick") then tick_line words array else at_plan in
    let at_idle_time = if bytes_eq first (codes "maxidletime") then set_line MaxIdleTime words array else at_tick in
    let at_life = if bytes_eq first (codes "maxlife") then set_line MaxLife words array else at_idle_time in
    let at_idle = if bytes_eq first (codes "maxidle") then set_line MaxIdle words array else at_life in
    let at_limits = if bytes_eq first (codes "maxopen") then set_line MaxOpen words array else at_idle in
    let at_caps = if bytes_eq first (codes "caps") then caps_line head words array else at_limits in
    either P (bytes_eq first (codes "version")) (version_line head words array) at_caps (λ is. version)
    (λ not. either P (bytes_eq first (codes "caps")) (caps_line head words array) at_limits (λ is. caps)
    (λ not. either P (bytes_eq first (codes "maxopen")) (set_line MaxOpen words array) at_idle (λ is. set MaxOpen)
    (λ not. either P (bytes_eq first (codes "maxidle")) (set_line MaxIdle words array) at_life (λ is. set MaxIdle)
    (λ not. either P (bytes_eq first (codes "maxlife")) (set_line MaxLife words array) at_idle_time (λ is. set MaxLife)
    (λ not. either P (bytes_eq first (codes "maxidletime")) (set_line MaxIdleTime words array) at_tick (λ is. set MaxIdleTime)
    (λ not. either P (bytes_eq first (codes "tick")) (tick_line words array) at_plan tick
    (λ not. either P (bytes_eq first (codes "fault")) (plan_line words array) at_start (λ is. plan)
    (λ not. either P (bytes_eq first (codes "start")) (start_line words array) at_step start
    (λ not. either P (bytes_eq first (codes "step")) (step_line words array) (client_line false first words array) step (λ not. client))))))))))
