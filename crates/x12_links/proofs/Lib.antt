mod RelayLemmas
mod PlanLemmas
mod RouteLemmas
mod WorkerLemmas
mod NetLemmas
