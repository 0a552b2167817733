mod Statuses
