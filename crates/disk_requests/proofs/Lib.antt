pub mod UnitsRead
